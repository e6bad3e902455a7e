pub mod Workbench
pub mod Alike
pub mod Edits
