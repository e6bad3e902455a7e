-- The lemmas that proofs of the crates above cite, passed on from one place. Declares nothing.
pub use Rattle.sv8_trace.proofs.SignLemmas.{signs_alike}
pub use Rattle.sv8_trace.proofs.Recorded.{recorded_none, one_more}
