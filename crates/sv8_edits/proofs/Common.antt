-- The lemmas that proofs of the crates above cite, passed on from one place. Declares nothing.
pub use Rattle.sv8_edits.proofs.Fed.{fed}
pub use Rattle.sv8_edits.proofs.EditedTimelines.{timeline_edits}
pub use Rattle.sv8_edits.proofs.EditedImage.{image_edits}
pub use Rattle.sv8_edits.proofs.ImageWords.{changes_inside}
