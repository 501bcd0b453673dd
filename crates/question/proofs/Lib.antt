pub mod Absent
pub mod AllSamples
pub mod Answers
pub mod Told
