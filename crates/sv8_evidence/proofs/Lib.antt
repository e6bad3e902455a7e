pub mod NotesInRange
pub mod SignLemmas
pub mod Untouched
pub mod Common
