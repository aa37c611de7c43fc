pub mod Rows
pub mod Spare
pub mod RewritingShown
pub mod TargetsShown
