pub mod Operands
pub mod Arithmetic
pub mod Control
pub mod Windows
pub mod StateRegisters
pub mod Memory
pub mod Instruction
pub mod Seen
