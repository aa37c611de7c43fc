pub mod LookUps
pub mod Materialized
pub mod laws
