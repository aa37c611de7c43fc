pub mod Statements
pub mod Reaches
pub mod simulation
pub mod chains
pub mod counting
pub mod cost
pub mod examples
