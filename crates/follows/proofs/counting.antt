pub mod CountClaim
pub mod CountScan
pub mod CountRegion
pub mod Attempts
