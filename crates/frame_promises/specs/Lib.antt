pub mod Ledger
pub mod BoundedWait
pub mod Worthless
