-- One step more of a draft, and a draft that has led to a checkpoint.
use Rattle.std.proofs.Common.{◌≡◌, ℕ, ◌+◌, ◌*◌, ◌<◌, ◌≤◌, Bool, false, ◌&&◌, cond, Option, None, refl, sym, ◌∙◌, ap, subst, arith, le-ltb, ltb}
use Rattle.sv8_model.specs.Cells.{Cell}
use Rattle.sv8_time.specs.Schedule.{Schedule}
use Rattle.sv8_notes.specs.Kept.{kept_in}
use Rattle.sv8_cpu.specs.State.{State}
use Rattle.sv8_cpu.specs.Run.{step}
use Rattle.sv8_trace.specs.declared.interval.Interval.{Interval}
use Rattle.sv8_trace.specs.Recorder.{steps_on, IsRecorded, HasOneMore}
use Rattle.sv8_trace.specs.Recording.{last_point, recorded}
use Rattle.sv8_trace.proofs.Common.{one_more}
use Rattle.sv8_bench.specs.Workbench.{Workbench}
use Rattle.sv8_walks.specs.Drafts.{Drafted, IsDraft}

-- what is not below a step is not kept
unkept : {A : Type 0} (below set untouched : Bool) (value : Option A) → below ≡ false → cond (below && set && untouched) value None ≡ None
unkept below set untouched value e = rw e refl

module _ (k : ℕ) (w : Workbench) (draft : Drafted) (s : State) (interval : Interval) (count : ℕ) (view : record { state = s; interval = interval; count = count } ≡ draft)
    (d : IsDraft w.kept.windows w.kept.pages k w.kept.timeline w.recording draft) where
  was : IsDraft w.kept.windows w.kept.pages k w.kept.timeline w.recording (record { state = s; interval = interval; count = count })
  was = subst (λ (x : Drafted). IsDraft w.kept.windows w.kept.pages k w.kept.timeline w.recording x) (sym view) d

  -- nothing is kept of the step that comes next
  pub free : (c : Cell) → kept_in count c interval.kept ≡ None
  free c = was.steps.kept count c ∙ unkept _ _ _ _ (le-ltb count count (omega arith))

  module _ (windows pages n : ℕ) (schedule : Schedule) (w_is : w.kept.windows ≡ windows) (p_is : w.kept.pages ≡ pages) (t_is : schedule ≡ w.kept.timeline) (here : n ≡ recorded k w.recording + draft.count) where
    at : n ≡ recorded k w.recording + count
    at = here ∙ ap (λ (x : Drafted). recorded k w.recording + x.count) (sym view)

    -- the step is recorded behind those of the draft
    pub drafted_more : (next : State) (new : Interval) → next ≡ step windows pages schedule n s → HasOneMore windows pages schedule n count s next interval new
        → (next ≡ steps_on windows pages w.kept.timeline (recorded k w.recording) (last_point w.recording) (count + 1))
        × IsRecorded windows pages w.kept.timeline (recorded k w.recording) (last_point w.recording) (count + 1) new
    drafted_more next new stepped more =
        let t = w.kept.timeline in
        let n_is = recorded k w.recording in
        let state : s ≡ steps_on windows pages t n_is (last_point w.recording) count = rw (← w_is, ← p_is) was.state in
        let steps : IsRecorded windows pages t n_is (last_point w.recording) count interval = rw (← w_is, ← p_is) was.steps in
        let stepped' : next ≡ step windows pages t (n_is + count) s = stepped ∙ ap (λ x. step windows pages x n s) t_is ∙ ap (λ x. step windows pages t x s) at in
        let more' : HasOneMore windows pages t (n_is + count) count s next interval new =
        subst (λ x. HasOneMore windows pages t x count s next interval new) at (subst (λ x. HasOneMore windows pages x n count s next interval new) t_is more) in
        one_more windows pages t n_is (last_point w.recording) s next count interval new state stepped' steps more'
