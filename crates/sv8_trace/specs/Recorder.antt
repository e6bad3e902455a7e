-- What is recorded of steps.
use Rattle.std.specs.Prelude.{◌≡◌, ℕ, false, zero, suc, ◌+◌, ◌<◌, ◌≤◌, ◌==◌, not, ◌&&◌, ◌||◌, Bool, cond, ltb, List, [], ◌∷◌, ◌++◌, Option, Some, None, is_some, slice_index_or}
use Rattle.sv8_model.specs.Cells.{Cell}
use Rattle.sv8_model.specs.Footprint.{data_touches}
use Rattle.sv8_history.specs.Machine.{Footprint, SameFootprint}
use Rattle.sv8_history.specs.Trace.{some_from}
use Rattle.sv8_time.specs.Schedule.{Schedule, pokes_of_step, requests_of_step}
use Rattle.sv8_time.specs.declared.words.WordPoke.{WordPoke}
use Rattle.sv8_time.specs.declared.requests.Request.{Request}
use Rattle.sv8_touches.specs.Told.{told}
use Rattle.sv8_notes.specs.declared.cell.Cell.TheVariants as cell
use Rattle.sv8_notes.specs.declared.cell.Content.TheVariants as content
use Rattle.sv8_notes.specs.declared.kept.Kept.{Kept}
use Rattle.sv8_notes.specs.Kept.{kept_in}
use Rattle.sv8_notes.specs.Touched.{is_touched}
use Rattle.sv8_notes.specs.Steps.{Gains, no_steps, footprint_in}
use Rattle.sv8_cpu.specs.State.{State}
use Rattle.sv8_cpu.specs.Run.{step, footprint}
use Rattle.sv8_cpu.specs.Work.{counted_by}
use Rattle.sv8_cpu.specs.Recorded.{event_at, poke_of, footprint_of, get}
use Rattle.sv8_trace.specs.declared.interval.Interval.{Interval}
use Rattle.sv8_trace.specs.declared.open_interval.OpenInterval.{OpenInterval}
use Rattle.sv8_trace.specs.Signs.{signs_among, with_step}

-- ---- the values below the events of a step

-- of a byte, if it is poked
abbrev pub below_byte : ℕ → State → ℕ → Option ℕ → List Kept
below_byte offset s address None = []
below_byte offset s address (Some value) =
    record { offset = offset; cell = cell.Byte address; content = content.Byte (slice_index_or s.memory.ram address 0) } ∷ []

-- of the poked bytes of a word
abbrev pub below_word : ℕ → State → WordPoke → List Kept
below_word offset s w =
    below_byte offset s w.address (slice_index_or w.bytes 0 None) ++ below_byte offset s (w.address + 1) (slice_index_or w.bytes 1 None)
    ++ below_byte offset s (w.address + 2) (slice_index_or w.bytes 2 None) ++ below_byte offset s (w.address + 3) (slice_index_or w.bytes 3 None)

abbrev pub below_words : ℕ → State → List WordPoke → List Kept
below_words offset s [] = []
below_words offset s (w ∷ ws) = below_word offset s w ++ below_words offset s ws

-- of the requested levels
abbrev pub below_requests : ℕ → State → List Request → List Kept
below_requests offset s [] = []
below_requests offset s (r ∷ rs) =
    record { offset = offset; cell = cell.Level r.level; content = content.Pending (slice_index_or s.memory.pending r.level false) } ∷ below_requests offset s rs

-- ---- steps from a state on

-- the state that j steps lead to, from the state `s` of step n
abbrev pub steps_on : (windows pages : ℕ) → Schedule → ℕ → State → ℕ → State
steps_on windows pages schedule n s zero = s
steps_on windows pages schedule n s (suc j) = step windows pages schedule (n + j) (steps_on windows pages schedule n s j)

-- the footprint of step n + j
abbrev pub footprint_on : (windows pages : ℕ) → Schedule → ℕ → State → ℕ → Footprint Cell
footprint_on windows pages schedule n s j = footprint_of (footprint windows pages schedule (n + j) (steps_on windows pages schedule n s j))

abbrev pub touches_on : (windows pages : ℕ) → Schedule → ℕ → State → Cell → ℕ → Bool
touches_on windows pages schedule n s c j = (footprint_on windows pages schedule n s j).reads c || (footprint_on windows pages schedule n s j).writes c

-- THE RECORD of the first `count` steps from the state `s` of step n: their footprints, what stood in cells below their events where no step has touched
-- the cell since, and the signs of the steps.
pub record IsRecorded (windows pages : ℕ) (schedule : Schedule) (n : ℕ) (s : State) (count : ℕ) (steps : Interval) : Type 0 where
  pub footprints : (j : ℕ) → j < count → SameFootprint (footprint_in steps.notes j) (footprint_on windows pages schedule n s j)
  -- nothing is noted of later steps
  pub nothing_later : (j : ℕ) → count ≤ j → SameFootprint (footprint_in steps.notes j) (footprint_in no_steps j)
  pub kept : (j : ℕ) (c : Cell) → kept_in j c steps.kept
      ≡ cond (ltb j count && is_some (poke_of c (event_at schedule (n + j))) && not (some_from j count (touches_on windows pages schedule n s c)))
      (Some (get c (steps_on windows pages schedule n s j))) None
  pub signs : steps.signs ≡ signs_among (steps_on windows pages schedule n s) count

-- ONE STEP MORE: the record new has what old has, and step n as the step with this offset. That step leads from the state s to
-- the state s'.
pub record HasOneMore (windows pages : ℕ) (schedule : Schedule) (n offset : ℕ) (s s' : State) (old new : Interval) : Type 0 where
  pub gained : Gains offset (told (footprint windows pages schedule n s)) (data_touches (footprint windows pages schedule n s)) old.notes new.notes
  pub kept : (j : ℕ) (c : Cell) → kept_in j c new.kept
      ≡ cond (is_touched (told (footprint windows pages schedule n s)) c) None (cond (j == offset && is_some (poke_of c (event_at schedule n))) (Some (get c s)) (kept_in j c old.kept))
  pub signs : new.signs ≡ with_step old.signs offset s s'

-- what is recorded so far of the interval under way
abbrev pub so_far : OpenInterval → Interval
so_far i = record { notes = i.recorder.notes; kept = i.kept; signs = i.signs }

-- a timeline has neither pokes nor requests at step n
abbrev pub IsQuiet : Schedule → ℕ → Type 0
IsQuiet schedule n = (pokes_of_step n schedule.pokes ≡ []) × (requests_of_step n schedule.requests ≡ [])

-- ---- the count of steps

-- no more steps more than so many
abbrev pub RaisedUpTo : ℕ → ℕ → ℕ → Type 0
RaisedUpTo most old new = (n : ℕ) × (n ≤ most) × (new ≡ counted_by n old)
