pub mod Token
pub mod Percents
pub mod Spelling
pub mod Lexing
pub mod Cutting
pub mod Reading
