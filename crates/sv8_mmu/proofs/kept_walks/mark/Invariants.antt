use Rattle.std.proofs.Common.{◌≡◌, ◌⊎◌, ℕ, true, take, Contains}
use Rattle.sv8_mmu.specs.Kept.{places_of, is_marked}
use Rattle.sv8_mmu.proofs.kept_walks.mark.Given as goal

abbrev pub invariant-loop-place : goal.invariant-loop-place
invariant-loop-place l = record {
  marked : (place : ℕ) → Contains (places_of l.fn.trail) place → Contains (take l.place-iterator.n l.place-iterator.iter.rest.now) place ⊎ (is_marked l.pages place ≡ true);
  kept : (place : ℕ) → is_marked l.fn.pages place ≡ true → is_marked l.pages place ≡ true;
}
