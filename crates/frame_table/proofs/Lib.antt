pub mod Tables
pub mod Gathering
pub mod Steps
pub mod Releasing
pub mod Promised
