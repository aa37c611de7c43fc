pub mod Written
pub mod laws
