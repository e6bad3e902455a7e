pub mod Accesses
pub mod Poking
pub mod Late
pub mod Known
pub mod Pages
