pub mod Answers
pub mod Bytes
pub mod Reading
pub mod Writing
pub mod RoundTrip
pub mod Samples
