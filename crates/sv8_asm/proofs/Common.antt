-- The lemmas that proofs of the crates above cite, passed on from one place. Declares nothing.
pub use Rattle.sv8_asm.proofs.Sizes.{bytes_fit}
pub use Rattle.sv8_asm.proofs.UsedNames.{agreeing_names_decide}
