pub mod PutInFront
pub mod Parts
pub mod Outputs
pub mod laws
