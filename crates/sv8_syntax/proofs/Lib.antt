pub mod Parts
pub mod Split
pub mod Lines
pub mod Defined
