-- A workbench as its contracts see it: what it keeps, the recorded run, and the count of the steps that were made. What edits and queries make of it.
use Rattle.std.specs.Prelude.{◌≡◌, ℕ, ◌+◌, ◌-◌, ◌*◌, ◌/◌, ◌<◌, ◌≤◌, Some, None, length, max}
use Rattle.sv8_history.specs.Machine.{Run, state_at}
use Rattle.sv8_history.specs.Reads.{IsFirstRead}
use Rattle.sv8_history.specs.Input.{IsFirstTake}
use Rattle.sv8_history.specs.Trace.{IsTraceOf}
use Rattle.sv8_history.specs.Laws.{IsRightCount}
use Rattle.sv8_history.specs.Growing.{restored}
use Rattle.sv8_phys.specs.Memory.{ram_size}
use Rattle.sv8_cpu.specs.Recorded.{machine, AreEvents, IsSound}
use Rattle.sv8_reset.specs.Reset.{reset_state, run_of}
use Rattle.sv8_trace.specs.Recorder.{RaisedUpTo}
use Rattle.sv8_cpu.specs.Work.{counted_by}
use Rattle.sv8_trace.specs.Recording.{Recording, signs_of, trace_of}
use Rattle.sv8_trace.specs.Signs.{signs_among}
use Rattle.sv8_edits.specs.Changes.{RunChange, cells, input}
use Rattle.sv8_workbench.specs.Kept.{Kept, empty}

pub record Workbench : Type 0 where
  pub kept : Kept
  pub recording : Recording
  -- the number of steps that were made, in all queries so far; 2^64 - 1 where it is that or more
  pub worked : ℕ

-- how many checkpoints above that of step 0 are recorded
abbrev pub checkpoints : Workbench → ℕ
checkpoints w = length w.recording.intervals

-- the run of what is kept
abbrev pub run_of_kept : (k : Kept) → AreEvents k.pages k.timeline → Run (machine k.windows k.pages)
run_of_kept k valid = run_of k.windows k.pages k.source k.timeline valid

-- the machine has so many register windows and pages of RAM, which is what the timeline may poke, and a checkpoint stands every k steps
pub record IsSized (nw ram_pages k : ℕ) (w : Workbench) : Type 0 where
  pub windows : w.kept.windows ≡ nw
  pub pages : w.kept.pages ≡ ram_pages
  pub some_windows : 2 ≤ nw
  pub few_windows : nw ≤ 32
  pub some_pages : 1 ≤ ram_pages
  pub few_pages : ram_pages ≤ 65536
  pub some_steps : 1 ≤ k
  pub few_steps : k ≤ 1000000
  pub limit : w.kept.timeline.limit ≡ ram_size ram_pages

-- THE RECORD OF A RUN: each checkpoint is the state of its step, each step has the notes of what it touches, and each interval has the signs that the
-- states before and after its steps show.
pub record IsRecordOf (windows pages k : ℕ) (run : Run (machine windows pages)) (r : Recording) : Type 0 where
  pub trace : IsTraceOf (machine windows pages) k run (trace_of windows pages k r)
  pub signs : (i : ℕ) → i < length r.intervals → signs_of r i ≡ signs_among (λ j. state_at (machine windows pages) run (k * i + j)) k

-- THE RECORDED RUN IS THAT OF THE SOURCE AND THE TIMELINE as they are now.
pub record IsRun (k : ℕ) (w : Workbench) : Type 0 where
  pub events : AreEvents w.kept.pages w.kept.timeline
  pub sound : IsSound w.kept.pages (reset_state w.kept.windows w.kept.pages w.kept.source)
  pub record_is : IsRecordOf w.kept.windows w.kept.pages k (run_of_kept w.kept events) w.recording

-- a new workbench: nothing is recorded, and no step was made
pub record IsNew (windows pages : ℕ) (w : Workbench) : Type 0 where
  pub kept : w.kept ≡ empty windows pages
  pub recorded : checkpoints w ≡ 0
  pub worked : w.worked ≡ 0

-- ---- edits

-- The first step of a run that reads what an edit changes: one of its cells, or the input from the step on from which it is another.
abbrev pub IsFirstReader : (k : Kept) → AreEvents k.pages k.timeline → RunChange k.windows k.pages → ℕ → Type 0
IsFirstReader k valid (cells cs) s = IsFirstRead (machine k.windows k.pages) (run_of_kept k valid) cs s
IsFirstReader k valid (input None) s = ⊥
IsFirstReader k valid (input (Some step)) s = IsFirstTake (machine k.windows k.pages) (run_of_kept k valid) step s

-- AN EDIT leads to what is now kept, and makes no step. Of the recorded run it leaves what is not above the first step that reads what it changes.
pub record IsEdited (k : ℕ) (next : Kept) (old new : Workbench) (change : RunChange old.kept.windows old.kept.pages) : Type 0 where
  pub kept : new.kept ≡ next
  pub worked : new.worked ≡ old.worked
  pub recorded : (valid : AreEvents old.kept.pages old.kept.timeline)
      → IsRightCount k (checkpoints old) (checkpoints new) (IsFirstReader old.kept valid change)

-- ---- queries

-- how many steps a query of a step makes: those from the last recorded checkpoint that is not above it
abbrev pub missing : ℕ → ℕ → Workbench → ℕ
missing k step w = step - restored k (checkpoints w) step

-- A query of a step was answered: the run is recorded up to the last checkpoint that is not above the step, if it was not.
pub record IsAnswered (k step : ℕ) (old new : Workbench) : Type 0 where
  pub kept : new.kept ≡ old.kept
  pub recorded : checkpoints new ≡ max (checkpoints old) (step / k)
  pub worked : new.worked ≡ counted_by (missing k step old) old.worked

-- It was given up for want of memory, at any point.
pub record IsGivenUp (k step : ℕ) (old new : Workbench) : Type 0 where
  pub kept : new.kept ≡ old.kept
  pub fewest : checkpoints old ≤ checkpoints new
  pub most : checkpoints new ≤ max (checkpoints old) (step / k)
  pub worked : RaisedUpTo (missing k step old) old.worked new.worked
