pub mod CellByCell
pub mod laws
