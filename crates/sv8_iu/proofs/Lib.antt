pub mod Choices
pub mod Asking
