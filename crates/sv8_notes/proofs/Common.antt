-- The lemmas that proofs of the crates above cite, passed on from one place. Declares nothing.
pub use Rattle.sv8_notes.proofs.Flagging.{below, flag_both, flag_more, flag_none, flag_pass, flag_unless}
pub use Rattle.sv8_notes.proofs.Gaining.{any_append, or_groups, swap}
pub use Rattle.sv8_notes.proofs.KeptLists.{kept_in-append, kept_in-filter}
pub use Rattle.sv8_notes.proofs.Marking.{longer, unmet}
pub use Rattle.sv8_notes.proofs.Recorded.{ended_gains}
pub use Rattle.sv8_notes.proofs.Told.{touches_told}
pub use Rattle.sv8_notes.proofs.Touching.{told_read, told_written, touched_told}
