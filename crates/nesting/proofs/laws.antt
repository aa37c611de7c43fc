pub mod NoMarks
pub mod HeldStays
