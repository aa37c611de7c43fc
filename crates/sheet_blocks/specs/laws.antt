pub mod RecordNames
pub mod Exits
