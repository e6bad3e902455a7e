use Rattle.std.proofs.Common.{◌≡◌, ◌<◌, ◌≤◌, ℕ, true, false, length}
use Rattle.std.specs.List.{list_any}
use Rattle.sv8_phys.specs.Memory.{ram_size}
use Rattle.sv8_watch.specs.Conditions.{meets}
use Rattle.sv8_workbench.specs.Shown.{machine_state}
use Rattle.sv8_search.specs.Search.{are_inside}
use Rattle.sv8_search.proofs.evidence.each_shows_none.Given as goal

abbrev pub invariant-loop-rest : goal.invariant-loop-rest
invariant-loop-rest g l = record {
  inside : are_inside (ram_size g.row.PAGES) l.rest ≡ true;
  none : (n : ℕ) → l.from ≤ n → n < l.to
      → list_any (meets l.bench.kept.windows l.bench.kept.pages l.bench.kept.timeline n (machine_state l.bench.kept n)) l.rest ≡ false
      → list_any (meets l.bench.kept.windows l.bench.kept.pages l.bench.kept.timeline n (machine_state l.bench.kept n)) l.conditions ≡ false;
}

abbrev pub decreases-loop-rest : goal.decreases-loop-rest
decreases-loop-rest g l = length l.rest
