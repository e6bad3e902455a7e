use Rattle.std.proofs.Common.{◌≡◌, ◌+◌, ◌%◌, ◌<◌, ◌==◌, nat_lt}
use Rattle.std.specs.Prelude.{◌&&◌}
use Rattle.sv8_notes.specs.Flags.{IsFlagged}
use Rattle.sv8_notes.proofs.Common.{below}
use Rattle.sv8_search.proofs.plan.flag_multiples.Given as goal

abbrev pub invariant-loop-place : goal.invariant-loop-place
invariant-loop-place l = record {
  some : 0 < l.number;
  past : l.past ≡ (l.from + l.place) % l.number;
  flags : IsFlagged (below (λ i. nat_lt 0 l.number && (l.from + i) % l.number == 0) l.place) l.initial.flags l.flags;
}
