pub mod Conditions
pub mod laws
