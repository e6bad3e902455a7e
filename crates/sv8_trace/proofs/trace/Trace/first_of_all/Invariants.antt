use Rattle.std.proofs.Common.{◌≡◌, length}
use Rattle.sv8_history.specs.Reads.{earlier, first_of_each}
use Rattle.sv8_cpu.specs.Recorded.{machine}
use Rattle.sv8_cpu.specs.Patches.{changes_of}
use Rattle.sv8_trace.specs.Recording.{trace_of}
use Rattle.sv8_trace.proofs.trace.Trace.first_of_all.Given as goal

abbrev pub invariant-loop-rest : goal.invariant-loop-rest
invariant-loop-rest g l =
    earlier l.first (first_of_each (machine g.row.NW g.row.PAGES) g.row.K (trace_of g.row.NW g.row.PAGES g.row.K l.self) (changes_of g.row.NW g.row.PAGES l.rest))
    ≡ first_of_each (machine g.row.NW g.row.PAGES) g.row.K (trace_of g.row.NW g.row.PAGES g.row.K l.self) (changes_of g.row.NW g.row.PAGES l.patches)

abbrev pub decreases-loop-rest : goal.decreases-loop-rest
decreases-loop-rest g l = length l.rest
