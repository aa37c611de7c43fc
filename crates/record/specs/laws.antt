pub mod Parts
pub mod PartsWithin
pub mod RegionsForgotten
pub mod RegionSteps
pub mod Row
pub mod IndexSteps
pub mod RecordSteps
