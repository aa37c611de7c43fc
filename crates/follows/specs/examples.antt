pub mod CaseForms
