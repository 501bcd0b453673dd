pub mod Worthless
