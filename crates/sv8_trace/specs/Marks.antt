-- How far the notes of each word reach among the intervals.
use Rattle.std.specs.Prelude.{ℕ, ◌<◌, ◌≤◌, List, length, slice_index_or}
use Rattle.sv8_notes.specs.Marks.{mark_of, IsUntouched}
use Rattle.sv8_trace.specs.declared.interval.Interval.{Interval}
use Rattle.sv8_trace.specs.Recording.{no_interval}

-- the mark of a word is a number of intervals behind which none has a note of it
abbrev pub AreMarked : List (List ℕ) → List Interval → Type 0
AreMarked marks intervals = (i address : ℕ) → i < length intervals → mark_of marks address ≤ i
    → IsUntouched (slice_index_or intervals i no_interval).notes address
