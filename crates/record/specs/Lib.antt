pub mod Stands
pub mod Readings
pub mod Answers
pub mod Outcome
pub mod Index
pub mod laws
