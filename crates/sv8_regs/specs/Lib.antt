pub mod Control
pub mod Current
pub mod Ring
