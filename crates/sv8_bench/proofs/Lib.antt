pub mod ShownWords
pub mod Queried
pub mod Alike
pub mod Edited
