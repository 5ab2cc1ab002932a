pub mod PlanLaws
pub mod Rounds
pub mod Runs
