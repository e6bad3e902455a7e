use Rattle.std.proofs.Common.{◌≡◌, ℕ, ◌<◌}
use Rattle.sv8_phys.specs.Parts.{part_at, blocks_of}
use Rattle.sv8_phys.proofs.half_page.HalfPage.is_same.Given as goal

abbrev pub invariant-loop-place : goal.invariant-loop-place
invariant-loop-place l = (p : ℕ) → p < l.place → part_at (blocks_of l.self.blocks) p ≡ part_at (blocks_of l.other.blocks) p
