pub mod Sheets
pub mod Compared
