pub mod BoundedWait
pub mod Worthless
