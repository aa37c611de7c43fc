pub mod Answers
pub mod Nests
pub mod laws
