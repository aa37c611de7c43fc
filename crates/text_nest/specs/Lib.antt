pub mod Prints
pub mod laws
