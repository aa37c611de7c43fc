pub mod SetTables
pub mod laws
