pub mod PutInFrontLaws
pub mod OutputsLaws
pub mod Rows
pub mod PartLaws
pub mod ValueShown
