pub mod Parts
pub mod Forgotten
pub mod ValuesForgotten
pub mod Targets
pub mod TerminatorsForgotten
pub mod AnswerSteps
pub mod Turns
