pub mod Accesses
pub mod Operands
pub mod Registers
pub mod Table
pub mod Encoding
