pub mod Items
pub mod Turns
pub mod AllSamples
pub mod Counting
