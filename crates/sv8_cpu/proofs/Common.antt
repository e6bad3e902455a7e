-- The lemmas that proofs of the crates above cite, passed on from one place. Declares nothing.
pub use Rattle.sv8_memory.proofs.Poking.{are_inside}
pub use Rattle.sv8_cpu.proofs.Leaving.{waiting_falls}
pub use Rattle.sv8_cpu.proofs.RecordedCells.{same_is}
pub use Rattle.sv8_cpu.proofs.RecordedEvents.{after_event, byte_comes, comes_alike, length-marked, length-poked, level_comes, serves}
pub use Rattle.sv8_cpu.proofs.RecordedActs.{framed}
