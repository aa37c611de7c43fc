pub mod Judged
pub mod Accepts
pub mod laws
