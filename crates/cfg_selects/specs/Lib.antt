pub mod Into
pub mod laws
