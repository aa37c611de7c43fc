pub mod Func
pub mod FuncShown
pub mod laws
