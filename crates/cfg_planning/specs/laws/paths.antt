pub mod PlanningLaws
