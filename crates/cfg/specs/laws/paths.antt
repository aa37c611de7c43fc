pub mod FuncLaws
