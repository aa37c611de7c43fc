pub mod CellTagsBack
pub mod RewriteKindsBack
