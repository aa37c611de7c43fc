pub mod WrittenLaws
pub mod RegionsLaws
pub mod SheetLines
pub mod Counts
pub mod LinesShown
