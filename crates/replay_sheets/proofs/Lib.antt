pub mod Words
pub mod Nested
