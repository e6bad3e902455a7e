-- The lemmas that proofs of the crates above cite, passed on from one place. Declares nothing.
pub use Rattle.sv8_model.proofs.Deeds.{does_done, does_if_false, does_if_true, does_map, does_observe, does_then, noting_then}
pub use Rattle.sv8_model.proofs.Lists.{IsByte, get_or-masked, get_or-unmasked, length-masked, length-unmasked, length-with_word, set_each, word_bytes, word_other}
pub use Rattle.sv8_model.proofs.Frames.{framed}
pub use Rattle.sv8_model.proofs.Staying.{sound, stays}
pub use Rattle.sv8_model.proofs.CellLaws.{cells_hold}
