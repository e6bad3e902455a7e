use Rattle.std.proofs.Common.{◌+◌}
use Rattle.sv8_notes.specs.Flags.{IsFlagged}
use Rattle.sv8_notes.proofs.Common.{below}
use Rattle.sv8_search.specs.Touching.{pokes_at}
use Rattle.sv8_search.proofs.touching.flag_poking.Given as goal

abbrev pub invariant-loop-place : goal.invariant-loop-place
invariant-loop-place l = IsFlagged (below (λ i. pokes_at l.timeline l.address l.count (l.from + i)) l.place) l.initial.flags l.flags
