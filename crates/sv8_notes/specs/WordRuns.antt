-- Runs of words that steps read one after the other.
use Rattle.std.specs.Prelude.{ℕ, zero, suc, ◌+◌, ◌<◌, List, [], ◌∷◌, ◌++◌, slice_index_or}
use Rattle.sv8_notes.specs.declared.notes.WordNote.{WordNote}
use Rattle.sv8_notes.specs.declared.word_run.WordRun.{WordRun}
use Rattle.sv8_notes.specs.Marks.{AreMarkedFrom}

-- the notes of so many words and steps, one after the other
abbrev pub words_from : ℕ → ℕ → ℕ → List WordNote
words_from address offset zero = []
words_from address offset (suc count) = record { address = address; offset = offset } ∷ words_from (address + 4) (offset + 1) count

abbrev pub words_of_run : WordRun → List WordNote
words_of_run run = words_from run.address run.first run.count

abbrev pub words_of : List WordRun → List WordNote
words_of [] = []
words_of (run ∷ runs) = words_of_run run ++ words_of runs

-- the words of the runs in front of run i have marks that are not below a number
abbrev pub AreMarkedBelow : List (List ℕ) → ℕ → List WordRun → ℕ → Type 0
AreMarkedBelow marks mark runs i = (j : ℕ) (d : WordRun) → j < i → AreMarkedFrom marks (slice_index_or runs j d).address mark (slice_index_or runs j d).count
