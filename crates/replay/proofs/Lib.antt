pub mod RecordKinds
pub mod Records
pub mod Replaying
pub mod StopLine
