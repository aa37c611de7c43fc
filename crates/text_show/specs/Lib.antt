pub mod Shows
pub mod laws
