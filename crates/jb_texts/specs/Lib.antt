pub mod CheckText
pub mod Front
pub mod PlanText
pub mod Report
pub mod ReportTokens
pub mod Statuses
pub mod Worked
pub mod inside
