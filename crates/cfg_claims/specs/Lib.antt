pub mod SplitOut
pub mod Claims
