pub mod ByStateLaws
pub mod ByInstLaws
pub mod Leaves
