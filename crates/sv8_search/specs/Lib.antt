pub mod Search
pub mod Comparing
pub mod Touching
pub mod Plans
