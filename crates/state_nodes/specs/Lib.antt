pub mod CellTags
pub mod NodeTables
pub mod RewriteKinds
pub mod laws
