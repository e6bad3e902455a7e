use Rattle.std.proofs.Common.{◌+◌, Bool, List, length}
use Rattle.std.specs.List.{list_any}
use Rattle.sv8_notes.specs.Flags.{IsFlagged}
use Rattle.sv8_evidence.proofs.SignLemmas.{is_note_at}
use Rattle.sv8_evidence.proofs.signs.flag_traps.Given as goal

-- the flags so far, and then those of the traps that are left, are those of all
abbrev pub invariant-loop-rest : goal.invariant-loop-rest
invariant-loop-rest l = (last : List Bool) → IsFlagged (λ i. list_any (is_note_at l.sign (l.from + i)) l.rest) l.flags last → IsFlagged (λ i. list_any (is_note_at l.sign (l.from + i)) l.traps) l.fn.flags last

abbrev pub decreases-loop-rest : goal.decreases-loop-rest
decreases-loop-rest l = length l.rest
