pub mod Made
pub mod Drafting
pub mod Ordinary
pub mod Together
pub mod Walking
