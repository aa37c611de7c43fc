pub mod ConditionsLaws
pub mod Inputs
pub mod DeferParts
