pub mod Groups
pub mod Words
