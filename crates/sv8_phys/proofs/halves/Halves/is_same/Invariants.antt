use Rattle.std.proofs.Common.{◌≡◌, ℕ, ◌<◌}
use Rattle.sv8_phys.specs.Parts.{part_at, halves_of}
use Rattle.sv8_phys.proofs.halves.Halves.is_same.Given as goal

abbrev pub invariant-loop-place : goal.invariant-loop-place
invariant-loop-place l = (p : ℕ) → p < l.place → part_at (halves_of l.self.halves) p ≡ part_at (halves_of l.other.halves) p
