pub mod ByState
pub mod ByInst
pub mod laws
