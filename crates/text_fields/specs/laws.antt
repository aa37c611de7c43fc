pub mod ListTexts
pub mod ListTurns
pub mod FieldTexts
pub mod Room
