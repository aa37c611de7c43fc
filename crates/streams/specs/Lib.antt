pub mod Sizes
pub mod laws
