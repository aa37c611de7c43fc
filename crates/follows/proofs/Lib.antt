pub mod counting
pub mod sound
pub mod examples
