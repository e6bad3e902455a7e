pub mod Changes
pub mod Affected
pub mod EditLaws
