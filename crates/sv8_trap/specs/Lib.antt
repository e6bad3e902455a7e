pub mod Table
pub mod Processor
pub mod Entry
pub mod Interrupt
pub mod Requests
