use Rattle.std.proofs.Common.{◌≡◌, ◌+◌, ◌<◌, ℕ, true, false, length, slice_index_or}
use Rattle.std.specs.List.{list_any}
use Rattle.sv8_phys.specs.Memory.{ram_size}
use Rattle.sv8_search.specs.Search.{are_inside, meets_at}
use Rattle.sv8_search.proofs.plan.flag_all.Given as goal

abbrev pub invariant-loop-rest : goal.invariant-loop-rest
invariant-loop-rest g l = record {
  inside : are_inside (ram_size g.row.PAGES) l.rest ≡ true;
  count : length l.flags ≡ length l.initial.flags;
  missed : (i : ℕ) → i < length l.initial.flags → slice_index_or l.flags i false ≡ false
      → list_any (λ c. meets_at l.bench.kept c (l.from + i)) l.rest ≡ false
      → (slice_index_or l.initial.flags i false ≡ false) × (list_any (λ c. meets_at l.bench.kept c (l.from + i)) l.conditions ≡ false);
}

abbrev pub decreases-loop-rest : goal.decreases-loop-rest
decreases-loop-rest g l = length l.rest
