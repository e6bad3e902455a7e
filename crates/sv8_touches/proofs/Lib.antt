pub mod ToldLaws
pub mod Common
