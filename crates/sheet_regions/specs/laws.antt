pub mod NumbersLaws
pub mod KeptLaws
pub mod RegionLineLaws
