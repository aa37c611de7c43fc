pub mod Planning
pub mod laws
