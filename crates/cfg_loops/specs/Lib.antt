pub mod Inputs
pub mod Exits
pub mod Loops
pub mod laws
