pub mod Tally
pub mod Same
pub mod Parts
pub mod Reading
pub mod laws
