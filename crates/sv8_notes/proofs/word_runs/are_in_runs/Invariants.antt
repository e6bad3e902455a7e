use Rattle.std.proofs.Common.{◌≡◌, length}
use Rattle.sv8_notes.specs.Touching.{are_notes_in}
use Rattle.sv8_notes.specs.WordRuns.{words_of}
use Rattle.sv8_notes.proofs.word_runs.are_in_runs.Given as goal

abbrev pub invariant-loop-rest : goal.invariant-loop-rest
invariant-loop-rest l = are_notes_in l.low l.last l.from l.end (words_of l.rest) ≡ are_notes_in l.low l.last l.from l.end (words_of l.runs)

abbrev pub decreases-loop-rest : goal.decreases-loop-rest
decreases-loop-rest l = length l.rest
