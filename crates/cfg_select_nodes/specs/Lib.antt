pub mod Turns
pub mod Cases
pub mod Selects
pub mod laws
