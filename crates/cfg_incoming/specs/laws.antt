pub mod VisitsLaws
pub mod CountedLaws
