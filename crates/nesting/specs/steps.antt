pub mod Post
pub mod StatesKept
pub mod RegionsLeft
pub mod TargetsAndCases
