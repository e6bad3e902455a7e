use Rattle.std.proofs.Common.{◌≡◌, true, false, length}
use Rattle.std.specs.List.{list_any}
use Rattle.sv8_phys.specs.Memory.{ram_size}
use Rattle.sv8_cpu.specs.State.{State}
use Rattle.sv8_watch.specs.Conditions.{meets}
use Rattle.sv8_watch.specs.Watched.{IsStepFrom}
use Rattle.sv8_search.specs.Search.{are_inside, olds_of, olds_count}
use Rattle.sv8_search.proofs.search.may_meet_any.Given as goal

abbrev pub invariant-loop-rest : goal.invariant-loop-rest
invariant-loop-rest g l = record {
  inside : are_inside (ram_size g.row.PAGES) l.rest ≡ true;
  count : length l.bytes ≡ olds_count l.rest;
  old : (s : State) → l.fn.old ≡ olds_of l.conditions s.memory.ram → l.bytes ≡ olds_of l.rest s.memory.ram;
  missed : (s : State) → IsStepFrom g.row.NW g.row.PAGES l.timeline l.n s l.before l.after l.watch → l.fn.old ≡ olds_of l.conditions s.memory.ram
      → list_any (meets g.row.NW g.row.PAGES l.timeline l.n s) l.rest ≡ false → list_any (meets g.row.NW g.row.PAGES l.timeline l.n s) l.conditions ≡ false;
}

abbrev pub decreases-loop-rest : goal.decreases-loop-rest
decreases-loop-rest g l = length l.rest
