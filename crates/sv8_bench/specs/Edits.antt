-- Edits of a workbench: what one of the timeline comes to, and how one is prepared.
use Rattle.std.specs.Prelude.{◌≡◌, ℕ, Result, Option, Some, None, option_map, OnOk, OnErr, IfErr}
use Rattle.sv8_model.specs.declared.refused.Refused.{Refused}
use Rattle.sv8_model.specs.Refused.{IsRefused}
use Rattle.sv8_history.specs.Patches.{edited}
use Rattle.sv8_history.specs.Input.{edited_input}
use Rattle.sv8_time.specs.declared.edit.TimelineEdit.{TimelineEdit}
use Rattle.sv8_time.specs.Edits.{timeline_fault, with_edit}
use Rattle.sv8_cpu.specs.Recorded.{machine}
use Rattle.sv8_edits.specs.Changes.{RunChange, cells, input, edit_change}
use Rattle.sv8_history.specs.Trace.{Near}
use Rattle.sv8_trace.specs.Prepared.{Preparation, prepared_trace, IsPreparedFor, IsPlaced}
use Rattle.sv8_trace.specs.Recording.{Recording, trace_of}
use Rattle.sv8_bench.specs.Alike.{StaysAlike}
use Rattle.sv8_workbench.specs.declared.fault.BenchFault.{BenchFault}
use Rattle.sv8_workbench.specs.declared.fault.BenchFault.TheVariants.{Time}
use Rattle.sv8_workbench.specs.Kept.{with_timeline}
use Rattle.sv8_bench.specs.Workbench.{Workbench, IsEdited}

-- AN EDIT OF THE TIMELINE is made, or it is refused, for its fault or for want of memory, and the workbench is as it was. What stays recorded has the
-- processors that it had.
pub record IsTimelineEdit {A : Type 0} (k : ℕ) (edit : TimelineEdit) (old new : Workbench) (result : Result A (Refused BenchFault)) : Type 0 where
  pub accepted : OnOk result (timeline_fault edit old.kept.timeline ≡ None)
  pub edited : OnOk result
      (IsEdited k (with_timeline (with_edit edit old.kept.timeline) old.kept) old new (edit_change old.kept.windows old.kept.pages edit old.kept.timeline))
  pub refused : IfErr result (IsRefused (option_map Time (timeline_fault edit old.kept.timeline)))
  pub unchanged : OnErr result (new ≡ old)
  pub alike : StaysAlike k old new

-- ---- what is prepared, for a change of a recorded run

-- it fits the record
abbrev pub Fits : ℕ → Recording → Option Preparation → Type 0
Fits pages r None = Unit {0}
Fits pages r (Some p) = IsPreparedFor pages r p

-- it makes of the record that of the changed run; input that stands already wants nothing
abbrev pub IsReadyFor : (windows pages k : ℕ) → RunChange windows pages → Recording → Option Preparation → Type 0
IsReadyFor windows pages k (cells cs) r (Some p) =
    Near (machine windows pages) k (prepared_trace windows pages k r p) (edited (machine windows pages) k (trace_of windows pages k r) cs)
IsReadyFor windows pages k (cells cs) r None = ⊥
IsReadyFor windows pages k (input (Some step)) r (Some p) =
    Near (machine windows pages) k (prepared_trace windows pages k r p) (edited_input (machine windows pages) k (trace_of windows pages k r) step)
IsReadyFor windows pages k (input (Some step)) r None = ⊥
IsReadyFor windows pages k (input None) r (Some p) = ⊥
IsReadyFor windows pages k (input None) r None = Unit {0}

-- it was done
abbrev pub IsCommitted : ℕ → ℕ → ℕ → Option Preparation → Recording → Recording → Type 0
IsCommitted windows pages k None old new = new ≡ old
IsCommitted windows pages k (Some p) old new = IsPlaced windows pages k old p new
