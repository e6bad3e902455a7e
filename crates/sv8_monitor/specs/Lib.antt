pub mod Conditions
pub mod Questions
pub mod Texts
pub mod Events
pub mod Answers
pub mod Pair
pub mod Session
pub mod Laws
