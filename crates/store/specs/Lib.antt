pub mod Layout
pub mod Refusals
pub mod Loaded
pub mod Writes
pub mod Block
pub mod laws
