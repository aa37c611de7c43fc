pub mod Aside
pub mod Structurized
pub mod IntoShown
