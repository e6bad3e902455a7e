pub mod Happening
pub mod Conditions
pub mod Watched
pub mod Touching
pub mod Running
pub mod Quiet
