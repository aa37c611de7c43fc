pub mod NamedLookUps
pub mod NamedSteps
pub mod NamedSelects
pub mod NamedClaims
pub mod NamedAnswer
pub mod ValidNamed
