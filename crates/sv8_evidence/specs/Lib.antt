pub mod Signs
pub mod Showing
pub mod Touching
