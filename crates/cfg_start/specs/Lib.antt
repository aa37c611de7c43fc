pub mod InitialState
pub mod laws
