pub mod CellByCellLaws
