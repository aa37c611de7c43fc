pub mod BufferLaws
pub mod Digits
pub mod Lists
pub mod Lengths
pub mod WholeTexts
