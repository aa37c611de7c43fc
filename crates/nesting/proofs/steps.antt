pub mod Keeps
pub mod UnclaimedFalls
pub mod ScanEnds
pub mod StatesSteady
