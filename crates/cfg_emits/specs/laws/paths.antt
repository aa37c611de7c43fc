pub mod EmitsLaws
