pub mod TrapExamples
pub mod TrapLaws
pub mod ArithmeticExamples
pub mod TimelineExamples
pub mod MemoryExamples
pub mod TranslationExamples
pub mod PlaceLaws
pub mod DeviceLaws
