pub mod Bounds
pub mod Rows
pub mod SortKeys
pub mod Events
pub mod Barring
pub mod Rivalry
pub mod LastEnds
pub mod Holders
