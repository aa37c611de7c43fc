pub mod Rewriting
pub mod ChainEnds
