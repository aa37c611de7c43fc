pub mod Shape
pub mod ByNumber
pub mod ItemsAndPlaces
pub mod laws
