pub mod Text
pub mod Buffer
pub mod Whole
pub mod laws
