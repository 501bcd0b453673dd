pub mod AllSamples
pub mod Calls
pub mod CallLoop
pub mod InParts
pub mod Lines
pub mod Sizes
