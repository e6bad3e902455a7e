-- Queries: how the record grows, the steps behind its last checkpoint, and how many of both are made.
use Rattle.std.proofs.Common.{◌≡◌, ◌∙◌, [], ◌∷◌, le-ltb, ℕ, zero, suc, ◌+◌, ◌-◌, ◌*◌, ◌/◌, ◌%◌, ◌<◌, ◌≤◌, ◌⊎◌, inl, inr, min, max, length, get_or, Result, Ok, Err, OnOk, OnErr, refl, sym, ap, arith, subst}
use Rattle.std.proofs.lemmas.Bool.{cases_lt}
use Rattle.std.proofs.Math.Nat.{div-lt_iff_lt-mul, le-div_iff_mul-le, mul_comm, mul-le-mul_left, add-zero, add-suc, mul-div_cancel_left, div-add-mod, div-le_of_le-mul}
use Rattle.sv8_time.specs.Schedule.{Schedule, bytes_below}
use Rattle.sv8_history.specs.Machine.{Run, state_at}
use Rattle.sv8_history.specs.Growing.{extended, restored, steps_from}
use Rattle.sv8_history.proofs.Common.{agrees_keeps, extend_keeps, restore_gives, query_work}
use Rattle.sv8_source.specs.Text.{Text}
use Rattle.sv8_cpu.specs.State.{State}
use Rattle.sv8_cpu.specs.Run.{step}
use Rattle.sv8_memory.specs.Events.{with_events}
use Rattle.sv8_cpu.specs.Work.{counted, counted_by}
use Rattle.sv8_cpu.specs.Recorded.{machine, event_at, AreEvents}
use Rattle.sv8_reset.specs.Reset.{reset_state, run_of}
use Rattle.sv8_reset.proofs.Runs.{state_is}
use Rattle.sv8_edits.proofs.Common.{fed}
use Rattle.sv8_trace.specs.Recorder.{steps_on, RaisedUpTo}
use Rattle.sv8_trace.specs.Recording.{Recording, fresh, blank, signs_of, last_point, recorded, trace_of, IsExtended}
use Rattle.sv8_trace.specs.Signs.{signs_among}
use Rattle.sv8_trace.proofs.Common.{signs_alike}
use Rattle.sv8_workbench.specs.Kept.{Kept}
use Rattle.sv8_workbench.specs.Shown.{machine_state}
use Rattle.sv8_bench.specs.Workbench.{Workbench, run_of_kept, IsRecordOf, IsRun, IsGivenUp}

-- ---- counts

counted_both : (n j work : ℕ) → counted_by (j + n) work ≡ counted_by n (counted_by j work)
counted_both zero j work = ap (λ x. counted_by x work) (add-zero j)
counted_both (suc n) j work = ap (λ x. counted_by x work) (add-suc j n) ∙ ap counted (counted_both n j work)

-- so many steps more than those that were counted so far
pub counted_more : (n j all first now new : ℕ) → now ≡ counted_by j first → new ≡ counted_by n now → j + n ≡ all → new ≡ counted_by all first
counted_more n j all first now new e f g = f ∙ ap (counted_by n) e ∙ sym (counted_both n j first) ∙ ap (λ x. counted_by x first) g

pub raised_more : (j few most first now new : ℕ) → now ≡ counted_by j first → RaisedUpTo few now new → few + j ≤ most → RaisedUpTo most first new
raised_more j few most first now new e r g = (j + r.0, omega (arith, r.1, g), counted_more r.0 j (j + r.0) first now new e r.2 refl)

-- ---- steps behind a checkpoint

pub steps_more : (windows pages : ℕ) (schedule : Schedule) (from n : ℕ) (s now next : State) → from ≤ n → now ≡ steps_on windows pages schedule from s (n - from)
    → next ≡ step windows pages schedule n now → next ≡ steps_on windows pages schedule from s (n + 1 - from)
steps_more windows pages schedule from n s now next l e f =
    let here : n ≡ from + (n - from) = omega (arith, l) in
    let later : suc (n - from) ≡ n + 1 - from = omega (arith, l) in
    f ∙ ap (step windows pages schedule n) e ∙ ap (λ x. step windows pages schedule x (steps_on windows pages schedule from s (n - from))) here
    ∙ ap (steps_on windows pages schedule from s) later

-- .. as the theory of recorded runs counts them
steps_same : (windows pages : ℕ) (source : Text) (schedule : Schedule) (valid : AreEvents pages schedule) (n : ℕ) (s : State) (j : ℕ)
    → steps_from (machine windows pages) (run_of windows pages source schedule valid) n s j ≡ steps_on windows pages schedule n s j
unfolding step with_events
steps_same windows pages source schedule valid n s zero = refl
steps_same windows pages source schedule valid n s (suc j) = ap (step windows pages schedule (n + j)) (steps_same windows pages source schedule valid n s j)

-- ---- the record grows

-- there is room for the steps up to the next checkpoint, or there is none
pub room : (k count step : ℕ) → 0 < k → k * count + k ≤ step → count + 1 ≤ step / k
room k count step pos h = (le-div_iff_mul-le pos).1 (omega (arith, h, mul_comm (count + 1) k))

pub full : (k count step : ℕ) → 0 < k → step < k * count + k → step / k ≤ count
full k count step pos h =
    let below : step / k < count + 1 = (div-lt_iff_lt-mul pos).1 (omega (arith, h, mul_comm (count + 1) k)) in
    omega (arith, below)

-- .. and what is recorded then
pub all_recorded : (k old now step : ℕ) → 0 < k → old ≤ now → now ≤ max old (step / k) → step < k * now + k → now ≡ max old (step / k)
all_recorded k old now step pos least most h = let last = full k now step pos h in omega (arith, least, most, last)

pub all_counted : (k old now step : ℕ) → 0 < k → old ≤ now → now ≤ max old (step / k) → step < k * now + k → k * (now - old) ≡ k * (step / k - old)
all_counted k old now step pos least most h =
    let last = full k now step pos h in
    let same : now - old ≡ step / k - old = omega (arith, least, most, last) in
    ap (λ x. k * x) same

-- the steps of one interval more
pub interval_more : (k old now : ℕ) → old ≤ now → k * (now - old) + k ≡ k * (now + 1 - old)
interval_more k old now least =
    let more : now + 1 - old ≡ suc (now - old) = omega (arith, least) in
    rw more (omega arith)

pub interval_few : (k old now step : ℕ) → 0 < k → old ≤ now → k * now + k ≤ step → k + k * (now - old) ≤ k * (step / k - old)
interval_few k old now step pos least h =
    let next = room k now step pos h in
    let more : suc (now - old) ≤ step / k - old = omega (arith, least, next) in
    let grown = mul-le-mul_left k more in
    omega (arith, grown)

-- the states that steps lead to from one of a run on are those of the run
steps_at : (windows pages : ℕ) (schedule : Schedule) (start : State) (valid : AreEvents pages schedule) (n : ℕ) (s : State)
    → s ≡ state_at (machine windows pages) (record { start = start; events = event_at schedule; valid = valid }) n → (j : ℕ)
    → steps_on windows pages schedule n s j ≡ state_at (machine windows pages) (record { start = start; events = event_at schedule; valid = valid }) (n + j)
unfolding step with_events
steps_at windows pages schedule start valid n s is zero =
    let here : n ≡ n + 0 = omega arith in
    is ∙ ap (state_at (machine windows pages) (record { start = start; events = event_at schedule; valid = valid })) here
steps_at windows pages schedule start valid n s is (suc j) =
    let next : suc (n + j) ≡ n + suc j = omega arith in
    ap (step windows pages schedule (n + j)) (steps_at windows pages schedule start valid n s is j)
    ∙ ap (state_at (machine windows pages) (record { start = start; events = event_at schedule; valid = valid })) next

-- the record that is extended is that of the run
pub extended_keeps : (windows pages k : ℕ) (schedule : Schedule) (old new : Recording) → 0 < k → IsExtended windows pages k schedule old new → (start : State) (valid : AreEvents pages schedule)
    → IsRecordOf windows pages k (record { start = start; events = event_at schedule; valid = valid }) old
    → IsRecordOf windows pages k (record { start = start; events = event_at schedule; valid = valid }) new
extended_keeps windows pages k schedule old new pos longer start valid h =
    let run : Run (machine windows pages) = record { start = start; events = event_at schedule; valid = valid } in
    record {
      trace = agrees_keeps (machine windows pages) k run (extended (machine windows pages) k run (trace_of windows pages k old)) (trace_of windows pages k new) (longer.agrees start valid)
          (extend_keeps (machine windows pages) k pos run (trace_of windows pages k old) h.trace);
      signs = λ i l. signed run i (let more = (longer.agrees start valid).count in omega (arith, l, more)) (cases_lt i (length old.intervals));
    }
  where
    signed : (run : Run (machine windows pages)) (i : ℕ) → i ≤ length old.intervals → (i < length old.intervals) ⊎ (length old.intervals ≤ i)
        → signs_of new i ≡ signs_among (λ j. state_at (machine windows pages) (record { start = start; events = event_at schedule; valid = valid }) (k * i + j)) k
    signed run i most (inl below) = longer.signs i below ∙ h.signs i below
    signed run i most (inr last) =
        let count = length old.intervals in
        let here : i ≡ count = omega (arith, most, last) in
        let point = ap (λ x. get_or old.points x blank) (sym (mul-div_cancel_left count pos)) ∙ h.trace.points count (omega arith) in
        ap (signs_of new) here ∙ longer.new_signs
        ∙ signs_alike (steps_on windows pages schedule (k * count) (last_point old))
        (λ j. state_at (machine windows pages) (record { start = start; events = event_at schedule; valid = valid }) (k * count + j)) k
        (λ j below. let is = steps_at windows pages schedule start valid (k * count) (last_point old) point j in
        record { processor = ap (λ (s : State). s.processor) is; mmu = ap (λ (s : State). s.mmu) is })
        ∙ ap (λ x. signs_among (λ j. state_at (machine windows pages) (record { start = start; events = event_at schedule; valid = valid }) (k * x + j)) k) (sym here)

-- ---- a new record

-- the first checkpoint alone is a record of every run that begins there
pub fresh_is : (windows pages k : ℕ) → 0 < k → (run : Run (machine windows pages)) (r : Recording) → r ≡ fresh run.start
    → IsRecordOf windows pages k run r
fresh_is windows pages k pos run r e = rw e (record {
  trace = record {
    points = λ i l.
        let none : i ≡ 0 = omega (arith, l) in
        ap (λ x. get_or (run.start ∷ []) x blank) (mul-div_cancel_left i pos ∙ none) ∙ ap (state_at (machine windows pages) run) (start i none);
    notes = λ n l. absurd (omega (arith, l));
    kept = λ n a. let above = le-ltb n (k * 0) (omega arith) in rw above refl;
  };
  signs = λ i l. absurd (omega (arith, l));
})
  where
    start : (i : ℕ) → i ≡ 0 → 0 ≡ k * i
    start i none = rw none (omega arith)

-- ---- what the workbench has recorded

module _ (k : ℕ) (pos : 0 < k) (kept : Kept) where
  -- a run that is recorded further
  pub run_further : (old new : Recording) (before after : ℕ) → IsRun k (record { kept = kept; recording = old; worked = before })
      → ((start : State) (valid : AreEvents kept.pages kept.timeline)
      → IsRecordOf kept.windows kept.pages k (record { start = start; events = event_at kept.timeline; valid = valid }) old
      → IsRecordOf kept.windows kept.pages k (record { start = start; events = event_at kept.timeline; valid = valid }) new)
      → IsRun k (record { kept = kept; recording = new; worked = after })
  run_further old new before after run further = record {
    events = run.events;
    sound = run.sound;
    record_is = further (reset_state kept.windows kept.pages kept.source) run.events run.record_is;
  }

  -- .. and one to which an interval was to be added
  pub run_added : {A E : Type 0} (result : Result A E) (old new : Recording) (worked : ℕ) → IsRun k (record { kept = kept; recording = old; worked = worked })
      → OnOk result (IsExtended kept.windows kept.pages k kept.timeline old new) → OnErr result (new ≡ old) → IsRun k (record { kept = kept; recording = new; worked = worked })
  run_added (Ok x) old new worked run longer same = run_further old new worked worked run (extended_keeps kept.windows kept.pages k kept.timeline old new pos longer)
  run_added (Err e) old new worked run longer same = subst (λ (r : Recording). IsRun k (record { kept = kept; recording = r; worked = worked })) (sym same) run

  module _ (recording : Recording) (worked : ℕ) (run : IsRun k (record { kept = kept; recording = recording; worked = worked })) where
    -- a checkpoint is the state of its step
    pub point_is : (i : ℕ) → i ≤ length recording.intervals → (trace_of kept.windows kept.pages k recording).point (k * i) ≡ machine_state kept (k * i)
    point_is i h = run.record_is.trace.points i h ∙ state_is kept.windows kept.pages kept.source kept.timeline run.events (k * i)

    -- so is the one from which a query of its own step goes on
    pub point_at : (n : ℕ) → n ≤ k * length recording.intervals → n % k ≡ 0
        → (trace_of kept.windows kept.pages k recording).point (restored k (length recording.intervals) n) ≡ machine_state kept n
    point_at n within whole =
        let count = length recording.intervals in
        let least : n / k ≤ count = div-le_of_le-mul k within in
        let parts = div-add-mod n k in
        let here : min count (n / k) ≡ n / k = omega (arith, least) in
        point_is (min count (n / k)) (omega arith) ∙ ap (λ (i : ℕ). machine_state kept (k * i)) here
        ∙ ap (machine_state kept) (omega (arith, parts, whole))

    -- so is the last one
    pub last_is : last_point recording ≡ machine_state kept (recorded k recording)
    last_is =
        let count = length recording.intervals in
        ap (λ i. get_or recording.points i blank) (sym (mul-div_cancel_left count pos)) ∙ point_is count (omega arith)

    -- the bytes that it has taken have come in, and those of the checkpoint from which a query goes on
    pub last_fed : (last_point recording).memory.taken ≤ bytes_below (recorded k recording) kept.timeline.inputs
    last_fed =
        subst (λ (s : State). s.memory.taken ≤ bytes_below (recorded k recording) kept.timeline.inputs) (sym last_is)
        (fed kept.windows kept.pages kept.source kept.timeline (recorded k recording))

    pub restored_fed : (n from : ℕ) (s : State) → from ≡ restored k (length recording.intervals) n
        → s ≡ (trace_of kept.windows kept.pages k recording).point (restored k (length recording.intervals) n) → s.memory.taken ≤ bytes_below from kept.timeline.inputs
    restored_fed n from s at e =
        let i = min (length recording.intervals) (n / k) in
        let here : s ≡ machine_state kept (k * i) = e ∙ point_is i (omega arith) in
        rw at (subst (λ (x : State). x.memory.taken ≤ bytes_below (k * i) kept.timeline.inputs) (sym here) (fed kept.windows kept.pages kept.source kept.timeline (k * i)))

    -- the steps from there on lead to the state that is asked for
    pub restored_leads : (n from : ℕ) (s new : State) → from ≡ restored k (length recording.intervals) n
        → s ≡ (trace_of kept.windows kept.pages k recording).point (restored k (length recording.intervals) n)
        → new ≡ steps_on kept.windows kept.pages kept.timeline from s (n - from) → new ≡ machine_state kept n
    restored_leads n from s new at e f =
        let m = restored k (length recording.intervals) n in
        f ∙ ap (λ x. steps_on kept.windows kept.pages kept.timeline x s (n - x)) at ∙ ap (λ x. steps_on kept.windows kept.pages kept.timeline m x (n - m)) e
        ∙ sym (steps_same kept.windows kept.pages kept.source kept.timeline run.events m _ (n - m))
        ∙ restore_gives (machine kept.windows kept.pages) k pos (run_of_kept kept run.events) (trace_of kept.windows kept.pages k recording) n run.record_is.trace
        ∙ state_is kept.windows kept.pages kept.source kept.timeline run.events n

-- ---- how many steps a query makes

-- it goes on from the last checkpoint that is not above its step
pub restored_at : (k old now n : ℕ) → 0 < k → now ≡ max old (n / k) → n - n % k ≡ restored k now n
restored_at k old now n pos e =
    let least : min now (n / k) ≡ n / k = omega (arith, e) in
    let parts = div-add-mod n k in
    rw least (omega (arith, parts))

pub query_steps : (k old now n : ℕ) → 0 < k → now ≡ max old (n / k) → k * (n / k - old) + (n - (n - n % k)) ≡ n - restored k old n
query_steps k old now n pos e =
    let work = query_work k old n in
    ap (λ x. k * (n / k - old) + (n - x)) (restored_at k old now n pos e ∙ ap (λ x. restored k x n) (e ∙ sym work.1)) ∙ work.0

pub query_extends : (k old n : ℕ) → k * (n / k - old) ≤ n - restored k old n
query_extends k old n = let work = query_work k old n in omega (arith, work.0)

-- a workbench that has recorded more, and one whose query was given up by then
abbrev pub with_record : Kept → Recording → ℕ → Workbench
with_record kept recording worked = record { kept = kept; recording = recording; worked = worked }

pub given_up : (k step : ℕ) (kept : Kept) (old new : Recording) (before after few : ℕ) → length old.intervals ≤ length new.intervals
    → length new.intervals ≤ max (length old.intervals) (step / k) → RaisedUpTo few before after → few ≤ step - restored k (length old.intervals) step
    → IsGivenUp k step (with_record kept old before) (with_record kept new after)
given_up k step kept old new before after few fewest most raised within = record {
  kept = refl;
  fewest = fewest;
  most = most;
  worked = (raised.0, omega (arith, raised.1, within), raised.2);
}
