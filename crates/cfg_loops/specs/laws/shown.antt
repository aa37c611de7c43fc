pub mod RewritesShown
pub mod InputsShown
pub mod ExitsShown
pub mod LoopsShown
pub mod ClaimedLoops
