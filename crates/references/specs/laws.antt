pub mod Walk
pub mod Walks
pub mod EdgesWalk
pub mod Steps
pub mod Rounds
