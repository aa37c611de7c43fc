pub mod Lines
pub mod Texts
pub mod WordsToText
pub mod laws
