use Rattle.std.proofs.Common.{◌+◌}
use Rattle.sv8_notes.specs.Flags.{IsFlagged}
use Rattle.sv8_notes.proofs.Common.{below}
use Rattle.sv8_watch.specs.Happening.{stands_at}
use Rattle.sv8_search.proofs.plan.flag_events.Given as goal

abbrev pub invariant-loop-place : goal.invariant-loop-place
invariant-loop-place l = IsFlagged (below (λ i. stands_at l.timeline (l.from + i)) l.place) l.initial.flags l.flags
