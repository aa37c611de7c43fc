pub mod CasesFilled
pub mod SplitFilled
