pub mod TurnsLaws
pub mod SelectsLaws
pub mod CasesLaws
