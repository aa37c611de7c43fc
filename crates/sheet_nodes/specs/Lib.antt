pub mod Whole
pub mod Pieces
pub mod Regions
pub mod Walk
pub mod Inside
pub mod laws
