pub mod Stored
pub mod Apart
pub mod Edges
pub mod Filled
