pub mod Emits
pub mod laws
