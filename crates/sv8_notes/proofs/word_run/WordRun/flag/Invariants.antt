use Rattle.std.proofs.Common.{◌≡◌, ◌+◌, ◌-◌, ◌*◌, ◌<◌, ℕ, false, length, slice_index_or}
use Rattle.std.specs.Prelude.{◌||◌}
use Rattle.sv8_notes.specs.Touching.{are_notes_in}
use Rattle.sv8_notes.specs.WordRuns.{words_from, words_of_run}
use Rattle.sv8_notes.proofs.word_run.WordRun.flag.Given as goal

abbrev pub invariant-loop-place : goal.invariant-loop-place
invariant-loop-place l = record {
  count : length l.flags ≡ length l.initial.flags;
  flags : (i : ℕ) → i < length l.initial.flags
      → (slice_index_or l.flags i false || are_notes_in l.low l.last (l.from + i) (l.from + i + 1) (words_from (l.self.address + 4 * l.place) (l.self.first + l.place) (l.self.count - l.place)))
      ≡ (slice_index_or l.initial.flags i false || are_notes_in l.low l.last (l.from + i) (l.from + i + 1) (words_of_run l.self));
}
