pub mod Answers
pub mod ByLine
pub mod laws
