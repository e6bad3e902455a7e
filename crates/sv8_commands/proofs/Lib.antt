pub mod WordLemmas
pub mod PutLemmas
pub mod NumberedLemmas
