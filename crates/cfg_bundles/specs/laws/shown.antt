pub mod Targets
pub mod RecordValues
pub mod Deferred
pub mod CaseSteps
pub mod Appended
