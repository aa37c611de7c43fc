pub mod Agrees
pub mod Replays
