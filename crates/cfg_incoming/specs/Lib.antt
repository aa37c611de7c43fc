pub mod Counted
pub mod Visits
pub mod laws
