pub mod RecordedLaws
pub mod Frames
pub mod Console
pub mod Windows
pub mod Examples
