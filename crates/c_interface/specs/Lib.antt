pub mod Exported
pub mod laws
