pub mod Places
pub mod CasesShown
pub mod RegionsShown
pub mod StepsShown
pub mod SelectsShown
pub mod Replaced
pub mod RowsKept
