pub mod MoreBudget
