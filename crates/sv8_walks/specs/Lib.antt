pub mod Drafts
pub mod Made
pub mod Lockstep
pub mod Together
pub mod Walks
