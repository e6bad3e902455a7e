use Rattle.std.proofs.Common.{◌≡◌, ◌+◌, ◌-◌, ◌*◌}
use Rattle.sv8_notes.specs.Touching.{are_notes_in}
use Rattle.sv8_notes.specs.WordRuns.{words_from, words_of_run}
use Rattle.sv8_notes.proofs.word_run.WordRun.is_any_in.Given as goal

abbrev pub invariant-loop-place : goal.invariant-loop-place
invariant-loop-place l =
    are_notes_in l.low l.last l.from l.end (words_from (l.self.address + 4 * l.place) (l.self.first + l.place) (l.self.count - l.place)) ≡ are_notes_in l.low l.last l.from l.end (words_of_run l.self)
