pub mod Numbers
pub mod Lists
pub mod Kept
pub mod RegionLine
pub mod laws
