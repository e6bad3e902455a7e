pub mod LoadedImage
pub mod Runs
