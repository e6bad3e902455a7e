-- The lemma that proofs of the crates above cite, passed on from one place. Declares nothing.
pub use Rattle.sv8_evidence.proofs.SignLemmas.{each_shows_none}
