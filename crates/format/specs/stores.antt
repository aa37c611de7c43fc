pub mod Pack
pub mod QuickRead
pub mod Quick
pub mod Hex
