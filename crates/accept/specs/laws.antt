pub mod Judging
pub mod AcceptSteps
