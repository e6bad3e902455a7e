-- What an edit makes of a workbench, once its changes are made of the trace.
use Rattle.std.proofs.Common.{◌≡◌, ◌∙◌, ℕ, ◌+◌, ◌*◌, ◌<◌, ◌≤◌, List, length, Option, Some, None, refl, sym, subst, arith, mul-le-mul_left}
use Rattle.sv8_history.specs.Machine.{Run, state_at}
use Rattle.sv8_history.specs.Trace.{Trace, IsTraceOf, Agrees, Near}
use Rattle.sv8_history.specs.Changes.{Change}
use Rattle.sv8_history.specs.Reads.{IsFirstRead}
use Rattle.sv8_history.specs.Input as history_input
use Rattle.sv8_history.specs.Input.{IsFirstTake}
use Rattle.sv8_history.specs.Patches as history
use Rattle.sv8_history.specs.Laws.{IsRightCount}
use Rattle.sv8_history.proofs.Common.{edit_keeps, edit_counts, input_edit_keeps, input_edit_counts, agrees_keeps, agrees_along, near_agrees, later_keeps}
use Rattle.sv8_time.specs.declared.edit.TimelineEdit.{TimelineEdit}
use Rattle.sv8_time.specs.declared.edit.TimelineEdit.TheVariants.{SetPoke, ClearPoke, SetPokeByte, ClearPokeByte, SetInput, ClearInput, SetRequest, ClearRequest}
use Rattle.sv8_time.specs.Edits.{with_edit}
use Rattle.sv8_time.specs.Schedule.{Schedule, IsTimeline}
use Rattle.sv8_phys.specs.Memory.{ram_size}
use Rattle.sv8_source.specs.Text.{Text}
use Rattle.sv8_cpu.specs.Sameness.{IsSameProcessor}
use Rattle.sv8_cpu.specs.Recorded.{machine, AreEvents}
use Rattle.sv8_cpu.proofs.Common.{framed}
use Rattle.sv8_reset.specs.Reset.{run_of}
use Rattle.sv8_edits.specs.Changes.{RunChange, cells, input}
use Rattle.sv8_edits.specs.EditLaws.{CanRun, Edits, Refeeds, Makes}
use Rattle.sv8_trace.specs.Recording.{Recording, signs_of, recorded, trace_of}
use Rattle.sv8_trace.specs.Prepared.{prepared_trace, IsPlaced, Preparation}
use Rattle.sv8_trace.specs.Signs.{signs_among}
use Rattle.sv8_trace.proofs.Common.{signs_alike}
use Rattle.sv8_workbench.specs.Kept.{Kept}
use Rattle.sv8_bench.specs.Edits.{IsReadyFor, IsCommitted}
use Rattle.sv8_bench.specs.Alike.{StaysAlike}
use Rattle.sv8_bench.specs.Workbench.{Workbench, IsRecordOf, IsRun, IsEdited}
use Rattle.sv8_bench.proofs.Alike.{unread_alike, untaken_alike, kept_alike}

-- an edit of a timeline leaves the size of RAM
pub limit_stays : (edit : TimelineEdit) (s : Schedule) → (with_edit edit s).limit ≡ s.limit
limit_stays (SetPoke step address value) s = refl
limit_stays (ClearPoke step address) s = refl
limit_stays (SetPokeByte step address value) s = refl
limit_stays (ClearPokeByte step address) s = refl
limit_stays (SetInput step bytes) s = refl
limit_stays (ClearInput step) s = refl
limit_stays (SetRequest step level) s = refl
limit_stays (ClearRequest step level) s = refl

-- what an edit comes to: the recorded run is that of what is now kept, what is said of the edit holds, and the processors are alike
pub record AfterEdit (k : ℕ) (old new : Workbench) (IsDone : Type 0) : Type 0 where
  pub run : IsRun k new
  pub done : IsDone
  pub alike : StaysAlike k old new

module _ (windows pages k : ℕ) (pos : 0 < k) where
  -- a run does not depend on how its events are seen to be valid
  pub of_any : (source : Text) (s : Schedule) (valid other : AreEvents pages s) (trace : Trace (machine windows pages))
      → IsTraceOf (machine windows pages) k (run_of windows pages source s valid) trace → IsTraceOf (machine windows pages) k (run_of windows pages source s other) trace
  of_any source s valid other trace is =
      later_keeps (machine windows pages) k pos (run_of windows pages source s valid) (run_of windows pages source s other) trace is refl (λ n h. refl)

  -- the signs stay right where the processors do
  signs_stay : (old new : Run (machine windows pages)) (r r' : Recording) → length r'.intervals ≤ length r.intervals → IsRecordOf windows pages k old r
      → ((i : ℕ) → i < length r'.intervals → signs_of r' i ≡ signs_of r i)
      → ((n : ℕ) → n ≤ recorded k r' → IsSameProcessor (state_at (machine windows pages) old n) (state_at (machine windows pages) new n))
      → (i : ℕ) → i < length r'.intervals → signs_of r' i ≡ signs_among (λ j. state_at (machine windows pages) new (k * i + j)) k
  signs_stay old new r r' fewer record_is signs same i l =
      let within : k * (i + 1) ≤ k * length r'.intervals = mul-le-mul_left k (omega arith) in
      signs i l ∙ record_is.signs i (omega (arith, l, fewer))
      ∙ signs_alike (λ j. state_at (machine windows pages) old (k * i + j)) (λ j. state_at (machine windows pages) new (k * i + j)) k
      (λ j below. same (k * i + j) (omega (arith, within, below)))

  module _ (source : Text) (s : Schedule) (r : Recording) (worked : ℕ) where
    abbrev pub old : Workbench
    old = record { kept = record { windows = windows; pages = pages; source = source; timeline = s }; recording = r; worked = worked }

    module _ (run : IsRun k old) (few : pages ≤ 65536) (timeline : IsTimeline s) (limit : s.limit ≡ ram_size pages) where
      abbrev pub can : CanRun windows pages source s
      can = record { few_pages = few; timeline = timeline; limit = limit; events = run.events; sound = run.sound }

      -- cells are edited
      module _ (steps : recorded k r ≤ 1000000) (source' : Text) (s' : Schedule) (cs : List (Change (machine windows pages))) (edits : Edits windows pages cs source s source' s' can)
          (staged : Preparation) (r' : Recording)
          (near : Near (machine windows pages) k (prepared_trace windows pages k r staged) (history.edited (machine windows pages) k (trace_of windows pages k r) cs))
          (placed : IsPlaced windows pages k r staged r')
          (next : Kept) (kept : record { windows = windows; pages = pages; source = source'; timeline = s' } ≡ next) where
        abbrev new : Workbench
        new = record { kept = record { windows = windows; pages = pages; source = source'; timeline = s' }; recording = r'; worked = worked }

        same : Agrees (machine windows pages) k (history.edited (machine windows pages) k (trace_of windows pages k r) cs) (trace_of windows pages k r')
        same =
            agrees_along (machine windows pages) k (history.edited (machine windows pages) k (trace_of windows pages k r) cs) (prepared_trace windows pages k r staged) (trace_of windows pages k r')
            (near_agrees (machine windows pages) k (prepared_trace windows pages k r staged) (history.edited (machine windows pages) k (trace_of windows pages k r) cs) near) placed.agrees

        edited_is : IsEdited k next old new (cells cs)
        edited_is = record {
          kept = kept;
          worked = refl;
          recorded = λ valid.
              subst (λ n. IsRightCount k (length r.intervals) n (IsFirstRead (machine windows pages) (run_of windows pages source s valid) cs)) (sym same.count)
              (edit_counts (machine windows pages) k pos (run_of windows pages source s valid) (trace_of windows pages k r) cs (of_any source s run.events valid (trace_of windows pages k r) run.record_is.trace));
        }

        states_alike : (n : ℕ) → n ≤ recorded k r'
            → IsSameProcessor (state_at (machine windows pages) (run_of windows pages source s run.events) n) (state_at (machine windows pages) (run_of windows pages source' s' edits.events) n)
        states_alike =
            let right = edited_is.recorded run.events in
            let fewer = mul-le-mul_left k right.fewer in
            unread_alike windows pages k (length r.intervals) (length r'.intervals) (run_of windows pages source s run.events) (run_of windows pages source' s' edits.events) cs right
            (edits.planned (k * length r'.intervals) (omega (arith, fewer, steps))) edits.edited

        edited_alike : StaysAlike k old new
        edited_alike = record { processors = λ n l. kept_alike windows pages source source' s s' run.events edits.events n (states_alike n l) }

        edited_run : IsRun k new
        edited_run = record {
          events = edits.events;
          sound = edits.sound;
          record_is = record {
            trace = agrees_keeps (machine windows pages) k (run_of windows pages source' s' edits.events) (history.edited (machine windows pages) k (trace_of windows pages k r) cs) (trace_of windows pages k r') same
                (edit_keeps (machine windows pages) (framed windows pages) k pos (run_of windows pages source s run.events) (run_of windows pages source' s' edits.events) (trace_of windows pages k r) cs run.record_is.trace
                (edits.planned (k * length r.intervals) steps) edits.edited);
            signs = signs_stay (run_of windows pages source s run.events) (run_of windows pages source' s' edits.events) r r' (edited_is.recorded run.events).fewer run.record_is placed.signs states_alike;
          };
        }

        after_edit : AfterEdit k old new (IsEdited k next old new (cells cs))
        after_edit = record { run = edited_run; done = edited_is; alike = edited_alike }

      -- the input from a step on is edited
      module _ (step : ℕ) (s' : Schedule) (refeeds : Refeeds windows pages step source s s' can) (staged : Preparation) (r' : Recording)
          (near : Near (machine windows pages) k (prepared_trace windows pages k r staged) (history_input.edited_input (machine windows pages) k (trace_of windows pages k r) step))
          (placed : IsPlaced windows pages k r staged r')
          (next : Kept) (kept : record { windows = windows; pages = pages; source = source; timeline = s' } ≡ next) where
        abbrev refed : Workbench
        refed = record { kept = record { windows = windows; pages = pages; source = source; timeline = s' }; recording = r'; worked = worked }

        fed_same : Agrees (machine windows pages) k (history_input.edited_input (machine windows pages) k (trace_of windows pages k r) step) (trace_of windows pages k r')
        fed_same =
            agrees_along (machine windows pages) k (history_input.edited_input (machine windows pages) k (trace_of windows pages k r) step) (prepared_trace windows pages k r staged) (trace_of windows pages k r')
            (near_agrees (machine windows pages) k (prepared_trace windows pages k r staged) (history_input.edited_input (machine windows pages) k (trace_of windows pages k r) step) near) placed.agrees

        refed_is : IsEdited k next old refed (input (Some step))
        refed_is = record {
          kept = kept;
          worked = refl;
          recorded = λ valid.
              subst (λ n. IsRightCount k (length r.intervals) n (IsFirstTake (machine windows pages) (run_of windows pages source s valid) step)) (sym fed_same.count)
              (input_edit_counts (machine windows pages) k pos (run_of windows pages source s valid) (trace_of windows pages k r) step (of_any source s run.events valid (trace_of windows pages k r) run.record_is.trace));
        }

        fed_alike : (n : ℕ) → n ≤ recorded k r'
            → IsSameProcessor (state_at (machine windows pages) (run_of windows pages source s run.events) n) (state_at (machine windows pages) (run_of windows pages source s' refeeds.events) n)
        fed_alike =
            untaken_alike windows pages k (length r.intervals) (length r'.intervals) (run_of windows pages source s run.events) (run_of windows pages source s' refeeds.events) step
            (refed_is.recorded run.events) refeeds.refed

        refed_alike : StaysAlike k old refed
        refed_alike = record { processors = λ n l. kept_alike windows pages source source s s' run.events refeeds.events n (fed_alike n l) }

        refed_run : IsRun k refed
        refed_run = record {
          events = refeeds.events;
          sound = run.sound;
          record_is = record {
            trace = agrees_keeps (machine windows pages) k (run_of windows pages source s' refeeds.events) (history_input.edited_input (machine windows pages) k (trace_of windows pages k r) step) (trace_of windows pages k r') fed_same
                (input_edit_keeps (machine windows pages) (framed windows pages) k pos (run_of windows pages source s run.events) (run_of windows pages source s' refeeds.events) (trace_of windows pages k r) step run.record_is.trace refeeds.refed);
            signs = signs_stay (run_of windows pages source s run.events) (run_of windows pages source s' refeeds.events) r r' (refed_is.recorded run.events).fewer run.record_is placed.signs fed_alike;
          };
        }

        after_input : AfterEdit k old refed (IsEdited k next old refed (input (Some step)))
        after_input = record { run = refed_run; done = refed_is; alike = refed_alike }

      -- input that stands already
      module _ (next : Kept) (kept : record { windows = windows; pages = pages; source = source; timeline = s } ≡ next) where
        after_nothing : AfterEdit k old old (IsEdited k next old old (input None))
        after_nothing = record {
          run = run;
          done = record { kept = kept; worked = refl; recorded = λ valid. record { fewer = omega arith; at_first = λ s h. absurd h; without = λ none. refl } };
          alike = record { processors = λ n l. record { processor = refl; mmu = refl } };
        }

      -- an edit of whatever it is
      module _ (steps : recorded k r ≤ 1000000) where
        abbrev changed : Text → Schedule → Recording → Workbench
        changed source' s' r' = record { kept = record { windows = windows; pages = pages; source = source'; timeline = s' }; recording = r'; worked = worked }

        pub after_change : (change : RunChange windows pages) (source' : Text) (s' : Schedule) → Makes windows pages change source s source' s' can
            → (staged : Option Preparation) → IsReadyFor windows pages k change r staged → (r' : Recording) → IsCommitted windows pages k staged r r'
            → (next : Kept) → record { windows = windows; pages = pages; source = source'; timeline = s' } ≡ next
            → AfterEdit k old (changed source' s' r') (IsEdited k next old (changed source' s' r') change)
        after_change (cells cs) source' s' edits (Some p) near r' placed next kept = after_edit steps source' s' cs edits p r' near placed next kept
        after_change (cells cs) source' s' edits None near r' placed next kept = absurd near
        after_change (input (Some step)) source' s' makes (Some p) near r' placed next kept =
            subst (λ t. record { windows = windows; pages = pages; source = t; timeline = s' } ≡ next
            → AfterEdit k old (changed t s' r') (IsEdited k next old (changed t s' r') (input (Some step)))) (sym makes.0)
            (λ same. after_input step s' makes.1 p r' near placed next same) kept
        after_change (input (Some step)) source' s' makes None near r' placed next kept = absurd near
        after_change (input None) source' s' makes (Some p) near r' placed next kept = absurd near
        after_change (input None) source' s' makes None near r' placed next kept =
            subst (λ t. record { windows = windows; pages = pages; source = t; timeline = s' } ≡ next
            → AfterEdit k old (changed t s' r') (IsEdited k next old (changed t s' r') (input None))) (sym makes.0)
            (subst (λ t. record { windows = windows; pages = pages; source = source; timeline = t } ≡ next
            → AfterEdit k old (changed source t r') (IsEdited k next old (changed source t r') (input None))) (sym makes.1)
            (subst (λ t. record { windows = windows; pages = pages; source = source; timeline = s } ≡ next
            → AfterEdit k old (changed source s t) (IsEdited k next old (changed source s t) (input None))) (sym placed)
            (λ same. after_nothing next same))) kept
