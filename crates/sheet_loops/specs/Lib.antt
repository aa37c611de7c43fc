pub mod LoopParts
pub mod OfLoop
