pub mod DearestCase
pub mod FirstClaim
