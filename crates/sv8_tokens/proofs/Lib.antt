pub mod Words
pub mod Cut
pub mod Texts
pub mod Loops
