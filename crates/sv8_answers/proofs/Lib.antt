pub mod AnswerLemmas
pub mod EffectLemmas
pub mod OrderLemmas
pub mod EditLemmas
