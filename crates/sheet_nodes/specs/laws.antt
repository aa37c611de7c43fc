pub mod WalkLaws
pub mod InsideLaws
pub mod Leftovers
