pub mod Exporting
pub mod Counted
pub mod ExportingNest
pub mod ExportingWrite
