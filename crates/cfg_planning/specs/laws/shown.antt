pub mod PerCaseShown
pub mod PlanningShown
