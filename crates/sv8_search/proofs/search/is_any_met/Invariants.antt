use Rattle.std.proofs.Common.{◌≡◌, true, length}
use Rattle.std.specs.List.{list_any}
use Rattle.sv8_phys.specs.Memory.{ram_size}
use Rattle.sv8_cpu.specs.State.{State}
use Rattle.sv8_watch.specs.Conditions.{is_met}
use Rattle.sv8_watch.specs.Watched.{IsBefore, happening_of}
use Rattle.sv8_search.specs.Search.{are_inside, olds_of, olds_count}
use Rattle.sv8_search.proofs.search.is_any_met.Given as goal

abbrev pub invariant-loop-rest : goal.invariant-loop-rest
invariant-loop-rest g l = record {
  inside : are_inside (ram_size g.row.PAGES) l.rest ≡ true;
  count : length l.bytes ≡ olds_count l.rest;
  old : (before : State) → l.fn.old ≡ olds_of l.conditions before.memory.ram → l.bytes ≡ olds_of l.rest before.memory.ram;
  met : (before : State) → IsBefore before l.step.before → l.fn.old ≡ olds_of l.conditions before.memory.ram
      → list_any (is_met l.step.n before l.step.after.now (happening_of before l.step) l.step.watch.now.touches) l.rest
      ≡ list_any (is_met l.step.n before l.step.after.now (happening_of before l.step) l.step.watch.now.touches) l.conditions;
}

abbrev pub decreases-loop-rest : goal.decreases-loop-rest
decreases-loop-rest g l = length l.rest
