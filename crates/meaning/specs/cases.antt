pub mod BeforeRun
pub mod NoEnds
pub mod RunText
pub mod RunForms
pub mod RunCases
