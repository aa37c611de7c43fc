pub mod Graph
pub mod Lists
pub mod Text
pub mod Runs
pub mod facts
pub mod laws
pub mod cases
