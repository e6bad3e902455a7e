use Rattle.std.proofs.Common.{◌≡◌, ◌≤◌, ◌<◌, ◌+◌, ◌-◌, ℕ, false, length, slice_index_or}
use Rattle.sv8_search.proofs.plan.Plan.next.Given as goal

abbrev pub invariant-loop-place : goal.invariant-loop-place
invariant-loop-place l = record {
  ordered : l.step ≤ l.self.start + l.place;
  end : l.place ≤ length l.self.flags.items;
  unset : (i : ℕ) → l.step ≤ l.self.start + i → i < l.place → slice_index_or l.self.flags.items i false ≡ false;
}

abbrev pub decreases-loop-place : goal.decreases-loop-place
decreases-loop-place l = length l.self.flags.items - l.place
