pub mod Kept
pub mod Shown
pub mod Faults
