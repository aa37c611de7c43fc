pub mod Nodes
pub mod Steps
