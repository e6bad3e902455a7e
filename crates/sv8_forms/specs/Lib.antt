pub mod Escapes
pub mod Taking
pub mod Mnemonics
pub mod Forms
