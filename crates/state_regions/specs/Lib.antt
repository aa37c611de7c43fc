pub mod RegionTables
pub mod laws
