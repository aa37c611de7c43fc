pub mod IntoLaws
pub mod Fronts
