pub mod Format
pub mod Calls
pub mod Rows
pub mod Records
