pub mod LineRoom
pub mod Answered
pub mod SheetByLine
pub mod AnswerPrinted
