pub mod Turns
pub mod Rewriting
pub mod Targets
pub mod laws
