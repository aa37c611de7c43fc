pub mod NestingRecord
pub mod NestingStore
