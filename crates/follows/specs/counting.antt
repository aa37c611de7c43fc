pub mod Reach
pub mod JustReached
pub mod Totals
pub mod SelectTotals
pub mod SplitTotals
pub mod Counting
