pub mod Rows
pub mod Sections
pub mod Totals
pub mod Values
pub mod laws
