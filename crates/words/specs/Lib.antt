pub mod Answers
pub mod Parts
pub mod Reasons
pub mod Reports
pub mod Sets
pub mod Words
