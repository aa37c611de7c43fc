pub mod steps
pub mod named
pub mod laws
pub mod lookups
