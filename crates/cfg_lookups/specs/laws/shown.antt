pub mod Shown
pub mod ConditionsShown
