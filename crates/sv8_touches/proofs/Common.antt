-- The lemmas that proofs of the crates above cite, passed on from one place. Declares nothing.
pub use Rattle.sv8_touches.proofs.ToldLaws.{footprint_told, writes_told}
