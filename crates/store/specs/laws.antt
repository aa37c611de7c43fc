pub mod Blocks
pub mod Words
pub mod Store
pub mod Front
pub mod Writes
pub mod WrittenBack
