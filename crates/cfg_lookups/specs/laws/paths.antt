pub mod MaterializedLaws
pub mod LookUpsLaws
