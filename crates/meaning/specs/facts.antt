pub mod Numbers
pub mod Tests
pub mod Elements
pub mod Parts
pub mod Members
pub mod Distinct
pub mod Sums
pub mod Pigeonhole
