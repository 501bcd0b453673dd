pub mod Lines
pub mod Text
pub mod InParts
pub mod Samples
