pub mod UndefinedTypes
pub mod ReadingStops
pub mod Refusals
