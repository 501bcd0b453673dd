pub mod Answers
pub mod Forms
pub mod Lines
pub mod Making
pub mod Parsing
pub mod ReadBack
