pub mod Emitting
pub mod SmallTypes
pub mod PerCase
pub mod EmitsShown
pub mod SetsEmitted
pub mod PlansShown
