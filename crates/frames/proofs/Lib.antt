pub mod AllScenarios
pub mod Rows
pub mod Calls
pub mod GrantCounts
