pub mod Records
pub mod RecordKinds
pub mod StopLine
pub mod Replay
