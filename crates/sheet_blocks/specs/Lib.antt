pub mod BlockParts
pub mod laws
