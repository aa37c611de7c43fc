pub mod WordsToTextSteps
pub mod Readers
