pub mod Counts
pub mod States
pub mod Valid
pub mod Outcomes
