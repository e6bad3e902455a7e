-- The lemmas that proofs of the crates above cite, passed on from one place. Declares nothing.
pub use Rattle.sv8_time.proofs.Parts.{behind, each_filter, each_map, each_passes, each_placed, filter_none, rising_placed}
pub use Rattle.sv8_time.proofs.Places.{IsSame, others}
pub use Rattle.sv8_time.proofs.Orders.{key_order, input_order}
pub use Rattle.sv8_time.proofs.KeyPlaces.{same_place}
pub use Rattle.sv8_time.proofs.Splits.{dropped_elsewhere, dropped_there, placed_elsewhere, placed_there, split}
pub use Rattle.sv8_time.proofs.ArrivedBytes.{length-arrived}
pub use Rattle.sv8_time.proofs.Nexts.{next_poke_is, next_request_is}
pub use Rattle.sv8_time.proofs.SoundEvents.{poke_bound, request_bound}
