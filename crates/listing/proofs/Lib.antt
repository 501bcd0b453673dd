pub mod AllSamples
pub mod Lines
pub mod PlayersCall
pub mod RecordLoop
pub mod Sizes
