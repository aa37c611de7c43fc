pub mod EdgesAndCases
pub mod laws
