-- What the contract of a run of these commands rests on
pub mod Commands
pub mod Order
pub mod Words
pub mod Operands
pub mod Text
pub mod Refusal
-- What the contracts of its parts say besides
pub mod Put
