pub mod Questions
pub mod Answers
pub mod Told
pub mod Samples
