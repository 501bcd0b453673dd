pub mod Answers
pub mod Bytes
pub mod Fields
pub mod Reading
pub mod Loads
pub mod RoundTrip
pub mod Writing
pub mod Samples
