pub mod SelectParts
pub mod OwnOutputs
pub mod CaseNumbers
pub mod SelectLines
pub mod laws
