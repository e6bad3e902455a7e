-- The machine's steps are those of the whole state: which bytes wait follows from how many were taken.
use Rattle.std.proofs.Common.{◌≡◌, ◌∙◌, ℕ, zero, suc, ◌+◌, ◌-◌, ◌≤◌, ◌==◌, Bool, true, false, nat_lt, List, [], ◌∷◌, ◌++◌, length, drop, filter, flat_map, refl, sym, ap, subst, arith, add-one}
use Rattle.std.proofs.lemmas.List.{drop-append-le, length-append, length-drop}
use Rattle.std.proofs.lemmas.Bool.Decides.{nat_tests}
use Rattle.std.proofs.lemmas.Grind.{flat_map-append}
use Rattle.std.proofs.Math.Seq.{drop-nil}
use Rattle.sv8_model.specs.Outside.{Outside, without_oldest}
use Rattle.sv8_model.specs.Action.{Action, done, load_word, store_word, load_byte, store_byte, take_input, count_waiting, emit, ask_levels, clear_levels, expire, observe, result_of, after, touches}
use Rattle.sv8_time.specs.Order.{Each, Rising}
use Rattle.sv8_time.specs.Schedule.{Schedule, arrived, Input, IsTimeline, input_before, is_input_at, bytes_of_step}
use Rattle.sv8_phys.specs.Memory.{ram_size}
use Rattle.sv8_phys.specs.Contents.{outside_of}
use Rattle.sv8_source.specs.Text.{Text}
use Rattle.sv8_cpu.specs.Step.{action}
use Rattle.sv8_memory.specs.Events.{with_events}
use Rattle.sv8_cpu.specs.State.{State, inner_of}
use Rattle.sv8_cpu.specs.Run as run
use Rattle.sv8_step_laws.specs.Frames.{WholeState, whole_step, whole_touched, whole_steps, events_of, whole, IsFed, EventsCome, StepsAreWhole, RunsAreWhole}
use Rattle.sv8_cpu.proofs.Common.{waiting_falls}
use Rattle.sv8_reset.specs.Reset.{reset_state, state_at}

-- ---- what comes in at a step comes in behind what came in before

-- where all inputs are above a step, none is below it
none_below : (n step : ℕ) (inputs : List Input) → n ≤ step → Each (λ j. nat_lt step j.step ≡ true) inputs → filter (λ j. nat_lt j.step n) inputs ≡ []
none_below n step [] up above = refl
none_below n step (j ∷ inputs) up above =
    let later = above.0 in
    let test : nat_lt j.step n ≡ false = grind (arith, nat_tests, later, up) in
    rw test (none_below n step inputs up above.1)

split : (n : ℕ) (inputs : List Input) → Rising input_before inputs
    → filter (λ j. nat_lt j.step (n + 1)) inputs ≡ filter (λ j. nat_lt j.step n) inputs ++ filter (is_input_at n) inputs
split n [] rising = refl
split n (i ∷ inputs) rising = by_case (split n inputs rising.1) (nat_lt i.step n) refl (i.step == n) refl
  where
    by_case : filter (λ j. nat_lt j.step (n + 1)) inputs ≡ filter (λ j. nat_lt j.step n) inputs ++ filter (is_input_at n) inputs → (below : Bool) → nat_lt i.step n ≡ below → (here : Bool) → (i.step == n) ≡ here
        → filter (λ j. nat_lt j.step (n + 1)) (i ∷ inputs) ≡ filter (λ j. nat_lt j.step n) (i ∷ inputs) ++ filter (is_input_at n) (i ∷ inputs)
    by_case rest true e true g = absurd (grind (arith, nat_tests))
    by_case rest true e false g =
        let next : nat_lt i.step (n + 1) ≡ true = grind (arith, nat_tests) in
        rw (e, g, next) (ap (λ xs. i ∷ xs) rest)
    by_case rest false e true g =
        let next : nat_lt i.step (n + 1) ≡ true = grind (arith, nat_tests) in
        let up : n ≤ i.step = grind (arith, nat_tests) in
        let none = none_below n i.step inputs up rising.0 in
        rw (e, g, next) (ap (λ xs. i ∷ xs) (rest ∙ ap (λ xs. xs ++ filter (is_input_at n) inputs) none) ∙ ap (λ xs. xs ++ i ∷ filter (is_input_at n) inputs) (sym none))
    by_case rest false e false g =
        let next : nat_lt i.step (n + 1) ≡ false = grind (arith, nat_tests) in
        rw (e, g, next) rest

arrived_more : (n : ℕ) (schedule : Schedule) → IsTimeline schedule → arrived (n + 1) schedule ≡ arrived n schedule ++ bytes_of_step n schedule.inputs
arrived_more n schedule timeline =
    ap (λ is. flat_map (λ i. i.bytes) is) (split n schedule.inputs timeline.inputs_rise)
    ∙ flat_map-append (λ i. i.bytes) (filter (λ j. nat_lt j.step n) schedule.inputs) (filter (is_input_at n) schedule.inputs)

-- ---- the events come

pub events_come : EventsCome
unfolding with_events
events_come schedule n s timeline fed =
    ap (λ bs. record (outside_of (with_events schedule n s.memory) []) { waiting = bs })
    (ap (drop s.memory.taken) (arrived_more n schedule timeline) ∙ drop-append-le s.memory.taken (arrived n schedule) (bytes_of_step n schedule.inputs) fed)

-- ---- what waits behind an action

-- bytes that are the last of others
abbrev IsEnd : List ℕ → List ℕ → Type 0
IsEnd ys xs = drop (length xs - length ys) xs ≡ ys

end_itself : (xs : List ℕ) → IsEnd xs xs
end_itself xs = let none : length xs - length xs ≡ 0 = omega arith in ap (λ k. drop k xs) none

end_more : (xs ys : List ℕ) → length ys ≤ length (without_oldest xs) → IsEnd ys (without_oldest xs) → IsEnd ys xs
end_more [] ys few h = h
end_more (x ∷ xs) ys few h = let more : length (x ∷ xs) - length ys ≡ suc (length xs - length ys) = omega (arith, few) in ap (λ k. drop k (x ∷ xs)) more ∙ h

waits_last : {R : Type 0} (a : Action R) (o : Outside) → IsEnd (after a o).waiting o.waiting
waits_last (done x) o = end_itself o.waiting
waits_last (load_word k g) o = waits_last (g _) o
waits_last (store_word k v a) o = waits_last a _
waits_last (load_byte i g) o = waits_last (g _) o
waits_last (store_byte i v a) o = waits_last a _
waits_last (take_input g) o = end_more o.waiting _ (waiting_falls (g _) _) (waits_last (g _) _)
waits_last (count_waiting g) o = waits_last (g _) o
waits_last (emit b a) o = waits_last a _
waits_last (ask_levels w g) o = waits_last (g _) o
waits_last (clear_levels w a) o = waits_last a _
waits_last (expire a) o = waits_last a _
waits_last (observe s a) o = waits_last a o

drop_twice : (t k : ℕ) (xs : List ℕ) → drop (t + k) xs ≡ drop k (drop t xs)
drop_twice zero k xs = let same : 0 + k ≡ k = omega arith in ap (λ n. drop n xs) same
drop_twice (suc t) k [] = drop-nil (suc t + k) ∙ sym (drop-nil k)
drop_twice (suc t) k (x ∷ xs) = let more : suc t + k ≡ suc (t + k) = omega arith in ap (λ n. drop n (x ∷ xs)) more ∙ drop_twice t k xs

-- ---- a step

-- what an action leaves waiting is what came in without all that was taken
waits_behind : {R : Type 0} (a : Action R) (taken : ℕ) (bytes : List ℕ) (o : Outside) → o.waiting ≡ drop taken bytes
    → drop (taken + (length o.waiting - length (after a o).waiting)) bytes ≡ (after a o).waiting
waits_behind a taken bytes o e =
    drop_twice taken (length o.waiting - length (after a o).waiting) bytes
    ∙ ap (drop (length o.waiting - length (after a o).waiting)) (sym e) ∙ waits_last a o

taken_more : (bytes : List ℕ) (taken left : ℕ) → taken ≤ length bytes → taken + (length (drop taken bytes) - left) ≤ length bytes
taken_more bytes taken left few = let waiting = length-drop taken bytes in omega (arith, waiting, few)

fed_more : (n : ℕ) (schedule : Schedule) (s : State) → IsTimeline schedule → IsFed schedule n s → s.memory.taken ≤ length (arrived (n + 1) schedule)
fed_more n schedule s timeline fed =
    let count = ap length (arrived_more n schedule timeline) ∙ length-append (arrived n schedule) (bytes_of_step n schedule.inputs) in
    omega (arith, count, fed)

pub steps_are_whole : StepsAreWhole
unfolding run.step run.footprint with_events
steps_are_whole windows pages schedule n s timeline fed =
    let come = events_come schedule n s timeline fed in
    let a = action windows (ram_size pages) (inner_of s) in
    let o = outside_of (with_events schedule n s.memory) (arrived (n + 1) schedule) in
    record {
      state =
          ap {A = List ℕ} {B = WholeState} (λ bs. record { inner = result_of a o; outside = record (after a o) { waiting = bs } }) (waits_behind a s.memory.taken (arrived (n + 1) schedule) o refl)
          ∙ ap {A = Outside} {B = WholeState} (λ p. record { inner = result_of a p; outside = after a p }) come;
      touched = ap (λ p. touches a p) come;
      fed = taken_more (arrived (n + 1) schedule) s.memory.taken (length (after a o).waiting) (fed_more n schedule s timeline fed);
    }

-- ---- a run

record Reached (windows pages : ℕ) (source : Text) (schedule : Schedule) (n : ℕ) : Type 0 where
  pub state : whole schedule n (state_at windows pages source schedule n)
      ≡ whole_steps windows pages (events_of schedule) n (whole schedule 0 (reset_state windows pages source))
  pub fed : IsFed schedule n (state_at windows pages source schedule n)

reached : (windows pages : ℕ) (source : Text) (schedule : Schedule) → IsTimeline schedule → (n : ℕ) → Reached windows pages source schedule n
unfolding run.steps reset_state
reached windows pages source schedule timeline zero = record { state = refl; fed = omega arith }
reached windows pages source schedule timeline (suc n) =
    let before = reached windows pages source schedule timeline n in
    let here = run.steps windows pages schedule n (reset_state windows pages source) in
    let one = steps_are_whole windows pages schedule n here timeline before.fed in
    let after = run.step windows pages schedule n here in
    record {
      state =
          ap (λ k. whole schedule k after) (sym (add-one n)) ∙ one.state
          ∙ ap (λ w. whole_step windows pages (events_of schedule n) w) before.state;
      fed = subst (λ k. IsFed schedule k after) (add-one n) one.fed;
    }

pub runs_are_whole : RunsAreWhole
runs_are_whole windows pages source schedule n timeline =
    let it = reached windows pages source schedule timeline n in
    let one = steps_are_whole windows pages schedule n (state_at windows pages source schedule n) timeline it.fed in
    record { state = it.state; touched = one.touched ∙ ap (λ w. whole_touched windows pages (events_of schedule n) w) it.state; fed = it.fed }
