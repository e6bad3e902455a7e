-- A trace as its contracts see it.
use Rattle.std.specs.Prelude.{◌≡◌, ℕ, ◌*◌, ◌/◌, ◌%◌, ◌<◌, length, List, [], ◌∷◌, slice_index_or}
use Rattle.sv8_trap.specs.Processor.{reset_processor}
use Rattle.sv8_mmu.specs.Registers.{registers_at_reset}
use Rattle.sv8_phys.specs.Contents.{empty_contents}
use Rattle.sv8_time.specs.Schedule.{Schedule}
use Rattle.sv8_history.specs.Trace as history
use Rattle.sv8_history.specs.Growing.{extended}
use Rattle.sv8_notes.specs.Steps.{Steps, no_steps, footprint_in}
use Rattle.sv8_notes.specs.Kept.{kept_in}
use Rattle.sv8_cpu.specs.State.{State}
use Rattle.sv8_cpu.specs.Recorded.{machine, event_at, AreEvents}
use Rattle.sv8_trace.specs.declared.interval.Interval.{Interval}
use Rattle.sv8_trace.specs.Recorder.{steps_on}
use Rattle.sv8_trace.specs.Signs.{Signs, no_signs, signs_among}

pub record Recording : Type 0 where
  -- the states of steps 0, k, 2k and so on
  pub points : List State
  -- what is kept of the steps between one checkpoint and the next
  pub intervals : List Interval

-- the first checkpoint alone
abbrev pub fresh : State → Recording
fresh s = record { points = s ∷ []; intervals = [] }

-- what stands where there is nothing
abbrev pub blank : State
blank = record { processor = reset_processor 2; mmu = registers_at_reset; memory = empty_contents 0 }

abbrev pub no_interval : Interval
no_interval = record { notes = no_steps; kept = []; signs = no_signs }

-- the trace that it shows, with a checkpoint every k steps
abbrev pub trace_of : (windows pages k : ℕ) → Recording → history.Trace (machine windows pages)
trace_of windows pages k r = record {
  count = length r.intervals;
  point = λ n. slice_index_or r.points (n / k) blank;
  notes = λ n. footprint_in (slice_index_or r.intervals (n / k) no_interval).notes (n % k);
  kept = λ n c. kept_in (n % k) c (slice_index_or r.intervals (n / k) no_interval).kept;
}

-- what the steps of interval i touch, and their signs
abbrev pub notes_of : Recording → ℕ → Steps
notes_of r i = (slice_index_or r.intervals i no_interval).notes

abbrev pub signs_of : Recording → ℕ → Signs
signs_of r i = (slice_index_or r.intervals i no_interval).signs

-- the number of recorded steps
abbrev pub recorded : ℕ → Recording → ℕ
recorded k r = k * length r.intervals

-- the state of the last checkpoint
abbrev pub last_point : Recording → State
last_point r = slice_index_or r.points (length r.intervals) blank

-- The new trace is the old one with the next k steps under a timeline, from whatever state the run began. Its new interval has the signs of these steps, and
-- the others keep theirs.
pub record IsExtended (windows pages k : ℕ) (schedule : Schedule) (old new : Recording) : Type 0 where
  pub agrees : (start : State) (valid : AreEvents pages schedule)
      → history.Agrees (machine windows pages) k
      (extended (machine windows pages) k (record { start = start; events = event_at schedule; valid = valid }) (trace_of windows pages k old))
      (trace_of windows pages k new)
  pub new_signs : signs_of new (length old.intervals) ≡ signs_among (steps_on windows pages schedule (recorded k old) (last_point old)) k
  pub signs : (i : ℕ) → i < length old.intervals → signs_of new i ≡ signs_of old i
