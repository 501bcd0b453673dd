pub mod Valid
pub mod Answers
pub mod Parts
