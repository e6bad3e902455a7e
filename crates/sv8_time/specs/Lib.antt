pub mod Order
pub mod Schedule
pub mod Words
pub mod Marks
pub mod Inputs
pub mod Timeline
pub mod Edits
