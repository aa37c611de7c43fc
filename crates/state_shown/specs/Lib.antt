pub mod Values
pub mod Tables
pub mod Front
pub mod Sets
pub mod Cells
pub mod States
pub mod Kept
pub mod laws
