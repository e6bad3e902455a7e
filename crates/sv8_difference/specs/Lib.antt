-- What it means to compare texts.
pub mod Difference
