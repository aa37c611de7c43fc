pub mod Checks
pub mod laws
