pub mod Rows
pub mod Calls
pub mod Vacant
pub mod Invariants
pub mod Scenarios
