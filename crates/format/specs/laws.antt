pub mod Stores
pub mod Written
pub mod WrittenBack
pub mod Readers
pub mod WellRead
pub mod AcceptValid
pub mod FirstEdges
