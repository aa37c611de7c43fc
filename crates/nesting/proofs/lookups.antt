pub mod ChainSteps
pub mod ChainEnds
pub mod Contexts
pub mod SecondLookUp
