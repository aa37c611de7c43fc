pub mod TargetsLaws
pub mod RewritingLaws
