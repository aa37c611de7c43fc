pub mod Lines
pub mod LinesWritten
pub mod Decode
pub mod DecodeForm
pub mod RoundTrip
pub mod FormRoundTrip
pub mod SheetLength
