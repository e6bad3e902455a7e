pub mod Current
pub mod Moves
pub mod Packing
pub mod Places
pub mod Rows
pub mod Sameness
