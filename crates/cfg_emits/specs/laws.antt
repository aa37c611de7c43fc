pub mod paths
pub mod shown
