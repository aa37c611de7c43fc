pub mod Figured
pub mod laws
