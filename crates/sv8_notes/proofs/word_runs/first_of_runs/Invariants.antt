use Rattle.std.proofs.Common.{take}
use Rattle.sv8_notes.specs.Steps.{IsFirstBelow, has_word}
use Rattle.sv8_notes.specs.WordRuns.{words_of}
use Rattle.sv8_notes.proofs.word_runs.first_of_runs.Given as goal

abbrev pub invariant-loop-run : goal.invariant-loop-run
invariant-loop-run l = IsFirstBelow (has_word (words_of (take l.run-index l.runs)) l.address) l.from l.end l.found
