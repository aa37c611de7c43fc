pub mod InitialStateLaws
