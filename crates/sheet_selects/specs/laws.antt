pub mod SelectPartsLaws
pub mod SelectLinesLaws
pub mod OwnOutputsLaws
pub mod CaseNumbersLaws
