-- What two checkpoints show of the steps between them, what signs and events show, and which numbers are no multiples.
use Rattle.std.proofs.Common.{◌≡◌, ◌∙◌, ℕ, zero, suc, ◌+◌, ◌-◌, ◌*◌, ◌/◌, ◌%◌, ◌≤◌, ◌<◌, ◌==◌, Bool, true, false, MatchBool, MatchOption, Option, Some, length, refl, sym, ap, subst, arith}
use Rattle.std.specs.Prelude.{not, ◌&&◌, nat_lt}
use Rattle.std.proofs.Math.Bool.{and-false}
use Rattle.std.proofs.Math.Nat.{div-add-mod, mul_comm}
use Rattle.std.proofs.lemmas.Nat.{mod-mul-add}
use Rattle.std.proofs.lemmas.Bool.Decides.{nat_tests}
use Rattle.sv8_cpu.specs.State.{State}
use Rattle.sv8_cpu.specs.Trapping.{may_have_trapped, may_have_trapped_of}
use Rattle.sv8_step_laws.proofs.Common.{consoles_grow}
use Rattle.sv8_evidence.specs.declared.signs.Sign.TheVariants as sign
use Rattle.sv8_watch.specs.declared.condition.Condition.TheVariants as condition
use Rattle.sv8_watch.specs.Happening.{happening, stands_at}
use Rattle.sv8_watch.specs.Conditions.{meets}
use Rattle.sv8_watch.specs.Quiet.{TakesNoTrap}
use Rattle.sv8_watch.proofs.Running.{running_steps_miss}
use Rattle.sv8_watch.proofs.Quiet.{trapless_steps_miss, other_types_miss, quiet_steps_miss}
use Rattle.sv8_workbench.specs.Kept.{Kept}
use Rattle.sv8_workbench.specs.Shown.{machine_state}
use Rattle.sv8_search.specs.Touching.{ShowsNone}
use Rattle.sv8_bench.specs.Workbench.{Workbench}
use Rattle.sv8_search.specs.Search.{MeetsNone, meets_at}
use Rattle.sv8_search.proofs.Searching.{next_state}

module _ (kept : Kept) where
  -- ---- error mode

  -- a step that leaves the machine running
  missed : (n : ℕ) → (machine_state kept (n + 1)).processor.running ≡ true
      → ((machine_state kept n).processor.running ≡ true) × (meets kept.windows kept.pages kept.timeline n (machine_state kept n) condition.Error ≡ false)
  missed n runs =
      running_steps_miss kept.windows kept.pages kept.timeline n (machine_state kept n)
      (ap (λ (s : State). s.processor.running) (sym (next_state kept n)) ∙ runs)

  runs_before : (more n : ℕ) → (machine_state kept (n + more)).processor.running ≡ true → (machine_state kept n).processor.running ≡ true
  runs_before zero n runs = subst (λ (m : ℕ). (machine_state kept m).processor.running ≡ true) (omega arith) runs
  runs_before (suc more) n runs =
      (missed n (runs_before more (n + 1) (subst (λ (m : ℕ). (machine_state kept m).processor.running ≡ true) (omega arith) runs))).0

  -- no step below one at which the machine runs leads to error mode
  pub none_errs : (from to : ℕ) → (machine_state kept to).processor.running ≡ true → MeetsNone kept condition.Error from to
  none_errs from to runs n low below =
      (missed n (runs_before (to - (n + 1)) (n + 1) (subst (λ (m : ℕ). (machine_state kept m).processor.running ≡ true) (omega (arith, below)) runs))).1

  -- ---- the console

  -- a count of bytes that no step lowers
  module _ (count : State → ℕ) (grows : (n : ℕ) → count (machine_state kept n) ≤ count (machine_state kept (n + 1))) where
    rises : (more n : ℕ) → count (machine_state kept n) ≤ count (machine_state kept (n + more))
    rises zero n =
        let same = ap (λ (m : ℕ). count (machine_state kept m)) (none_more n) in
        omega (arith, same)
      where
        none_more : (n : ℕ) → n ≡ n + 0
        none_more n = omega arith
    rises (suc more) n =
        let here = grows n in
        let behind = rises more (n + 1) in
        let same = ap (λ (m : ℕ). count (machine_state kept m)) (next_is n more) in
        omega (arith, here, behind, same)
      where
        next_is : (n more : ℕ) → n + 1 + more ≡ n + suc more
        next_is n more = omega arith

    -- where it is the same in two states, no step between them raises it
    stays : (from to n : ℕ) → count (machine_state kept from) ≡ count (machine_state kept to) → from ≤ n → n < to
        → count (machine_state kept n) ≡ count (machine_state kept (n + 1))
    stays from to n e low below =
        let before = rises (n - from) from in
        let here = grows n in
        let behind = rises (to - (n + 1)) (n + 1) in
        let at = ap (λ (m : ℕ). count (machine_state kept m)) (first from n low) in
        let last = ap (λ (m : ℕ). count (machine_state kept m)) (second n to below) in
        omega (arith, before, here, behind, at, last, e)
      where
        first : (from n : ℕ) → from ≤ n → from + (n - from) ≡ n
        first from n low = omega (arith, low)

        second : (n to : ℕ) → n < to → n + 1 + (to - (n + 1)) ≡ to
        second n to below = omega (arith, below)

  abbrev count_taken : State → ℕ
  count_taken s = s.memory.taken

  abbrev count_put : State → ℕ
  count_put s = length s.memory.output

  taken_grows : (n : ℕ) → count_taken (machine_state kept n) ≤ count_taken (machine_state kept (n + 1))
  taken_grows n = subst (λ (s : State). count_taken (machine_state kept n) ≤ count_taken s) (sym (next_state kept n)) (consoles_grow kept.windows kept.pages kept.timeline n (machine_state kept n)).taken

  put_grows : (n : ℕ) → count_put (machine_state kept n) ≤ count_put (machine_state kept (n + 1))
  put_grows n = subst (λ (s : State). count_put (machine_state kept n) ≤ count_put s) (sym (next_state kept n)) (consoles_grow kept.windows kept.pages kept.timeline n (machine_state kept n)).output

  pub none_takes : (from to : ℕ) → (machine_state kept from).memory.taken ≡ (machine_state kept to).memory.taken → MeetsNone kept condition.Input from to
  none_takes from to e n low below =
      quiet_steps_miss.taken kept.windows kept.pages kept.timeline n (machine_state kept n)
      (stays count_taken taken_grows from to n e low below ∙ ap count_taken (next_state kept n))

  pub none_puts : (from to : ℕ) → length (machine_state kept from).memory.output ≡ length (machine_state kept to).memory.output → MeetsNone kept condition.Output from to
  none_puts from to e n low below =
      quiet_steps_miss.put kept.windows kept.pages kept.timeline n (machine_state kept n)
      (stays count_put put_grows from to n e low below ∙ ap count_put (next_state kept n))

  -- ---- events

  pub none_stands : (from to : ℕ) → ((n : ℕ) → from ≤ n → n < to → stands_at kept.timeline n ≡ false) → MeetsNone kept condition.Event from to
  unfolding happening
  none_stands from to none = none

-- ---- traps

module _ (k : ℕ) (w : Workbench) (from to n : ℕ) (low : from ≤ n) (below : n < to) where
  pub takes_no_trap : ShowsNone sign.Trap k w from to → TakesNoTrap w.kept.windows w.kept.pages w.kept.timeline n (machine_state w.kept n)
  takes_no_trap it =
      trapless_steps_miss w.kept.windows w.kept.pages w.kept.timeline n (machine_state w.kept n)
      (ap (λ (s : State). may_have_trapped (machine_state w.kept n).processor s.processor) (sym (next_state w.kept n)) ∙ it.apart n low below)

  pub takes_no_type : (type : ℕ) → ShowsNone (sign.TrapType type) k w from to → meets_at w.kept (condition.TrapType type) n ≡ false
  takes_no_type type it =
      other_types_miss type w.kept.windows w.kept.pages w.kept.timeline n (machine_state w.kept n)
      (ap (λ (s : State). may_have_trapped_of type (machine_state w.kept n).processor s.processor) (sym (next_state w.kept n)) ∙ it.apart n low below)

pub none_traps : (k : ℕ) (w : Workbench) (from to : ℕ) (b : Bool) (Q : Type 0) → MatchBool b (ShowsNone sign.Trap k w from to) Q → b ≡ true
    → MeetsNone w.kept condition.Trap from to
none_traps k w from to b Q h e n low below = (takes_no_trap k w from to n low below (subst (λ x. MatchBool x (ShowsNone sign.Trap k w from to) Q) e h)).none

pub none_traps_of : (k : ℕ) (w : Workbench) (type from to : ℕ) (b : Bool) (Q : Type 0) → MatchBool b (ShowsNone (sign.TrapType type) k w from to) Q → b ≡ true
    → MeetsNone w.kept (condition.TrapType type) from to
none_traps_of k w type from to b Q h e n low below =
    takes_no_type k w from to n low below type (subst (λ x. MatchBool x (ShowsNone (sign.TrapType type) k w from to) Q) e h)

-- ---- multiples

-- ---- checkpoints

-- what is said of what was found
pub of_found : {A : Type 0} (r : Option A) (x : A) (P : Type 0) (Q : A → Type 0) → MatchOption r P Q → r ≡ Some x → Q x
of_found r x P Q h e = subst (λ o. MatchOption o P Q) e h

pub equal_count : (a b : ℕ) → (a == b) ≡ true → a ≡ b
equal_count a b h = grind (arith, nat_tests, h)

pub not_true : (b : Bool) → not b ≡ true → b ≡ false
not_true false h = refl
not_true true h = cc
