pub mod LoopsLaws
pub mod InputsLaws
pub mod ExitsLaws
