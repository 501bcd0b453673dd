pub mod Items
pub mod Shown
pub mod Turns
pub mod Samples
