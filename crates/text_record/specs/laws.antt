pub mod Passes
pub mod Ends
pub mod PassLines
pub mod ItemBytes
pub mod RegionBytes
pub mod Fits
