pub mod Registers
pub mod Faults
pub mod Names
pub mod Address
pub mod Operand
pub mod Table
pub mod Outcome
pub mod Steps
