pub mod Workload
pub mod Whole
pub mod Drafts
pub mod Samples
