pub mod Places
pub mod Words
pub mod Standing
pub mod Sparing
pub mod Accesses
pub mod Running
pub mod Quiet
