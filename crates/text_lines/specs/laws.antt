pub mod LineTexts
pub mod SheetTexts
