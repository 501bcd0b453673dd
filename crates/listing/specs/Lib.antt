pub mod Lines
pub mod Text
pub mod Room
pub mod Samples
