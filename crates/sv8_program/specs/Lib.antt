pub mod Windows
pub mod Words
pub mod Ends
