pub mod Ranged
pub mod Finding
pub mod Counting
pub mod Sharing
pub mod Steps
pub mod Promised
