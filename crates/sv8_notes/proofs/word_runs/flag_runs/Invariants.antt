use Rattle.std.proofs.Common.{◌≡◌, ◌+◌, ◌<◌, ℕ, false, length, slice_index_or}
use Rattle.std.specs.Prelude.{◌||◌}
use Rattle.sv8_notes.specs.Touching.{are_notes_in}
use Rattle.sv8_notes.specs.WordRuns.{words_of}
use Rattle.sv8_notes.proofs.word_runs.flag_runs.Given as goal

abbrev pub invariant-loop-rest : goal.invariant-loop-rest
invariant-loop-rest l = record {
  count : length l.flags ≡ length l.initial.flags;
  flags : (i : ℕ) → i < length l.initial.flags
      → (slice_index_or l.flags i false || are_notes_in l.low l.last (l.from + i) (l.from + i + 1) (words_of l.rest))
      ≡ (slice_index_or l.initial.flags i false || are_notes_in l.low l.last (l.from + i) (l.from + i + 1) (words_of l.runs));
}

abbrev pub decreases-loop-rest : goal.decreases-loop-rest
decreases-loop-rest l = length l.rest
