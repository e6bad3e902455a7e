-- The lemmas that proofs of the crates above cite, passed on from one place. Declares nothing.
pub use Rattle.sv8_history.proofs.Spans.{next_above, none_at, none_from, some_from-like}
pub use Rattle.sv8_history.proofs.Least.{Found, found, found_one}
pub use Rattle.sv8_history.proofs.Footprints.{footprint_back, footprint_same, footprint_then}
pub use Rattle.sv8_history.proofs.Silent.{later_keeps}
pub use Rattle.sv8_history.proofs.Cut.{agrees_keeps}
pub use Rattle.sv8_history.proofs.Growing.{extend_keeps, query_work, restore_gives}
pub use Rattle.sv8_history.proofs.Edits.{edit_counts, edit_keeps}
pub use Rattle.sv8_history.proofs.Input.{input_edit_counts, input_edit_keeps}
pub use Rattle.sv8_history.proofs.Words.{of_each}
pub use Rattle.sv8_history.proofs.Acting.{acting_frames}
pub use Rattle.sv8_history.proofs.Nearness.{agrees_along, near_agrees, near_all, near_along, near_same}
pub use Rattle.sv8_history.proofs.Spreading.{after_step, below_is, below_none, div_along, first_of, from_step, next_index, none_near, none_set, nothing_below, put_near, second_of, spread_near, third_of}
