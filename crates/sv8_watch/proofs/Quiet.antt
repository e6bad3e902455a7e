-- Steps that take no trap, and steps that leave the console alone.
use Rattle.std.proofs.Common.{◌≡◌, ◌∙◌, ◌⊎◌, inl, inr, ℕ, ◌≤◌, ◌==◌, Bool, true, false, List, [], ◌∷◌, length, Some, None, refl, sym, ap, arith, le-ltb}
use Rattle.std.specs.Prelude.{not, ◌&&◌, is_some, if◌then◌else◌, slice_get}
use Rattle.std.proofs.Math.Bool.{and-false}
use Rattle.std.proofs.lemmas.Bool.Decides.{nat_tests}
use Rattle.std.proofs.lemmas.Option.{slice_get_past}
use Rattle.sv8_model.specs.declared.observation.Observation.{Observation}
use Rattle.sv8_model.specs.declared.observation.Observation.TheVariants as seen
use Rattle.sv8_time.specs.Order.{Each}
use Rattle.sv8_time.specs.Schedule.{Schedule, input_bytes, pokes_of_step, bytes_of_step, requests_of_step}
use Rattle.sv8_phys.specs.declared.output.OutputPlace.{OutputPlace}
use Rattle.sv8_phys.specs.Ends.{IsEnd}
use Rattle.sv8_cpu.specs.State.{State}
use Rattle.sv8_cpu.specs.Run.{step, observed}
use Rattle.sv8_cpu.specs.Trapping.{is_at_trap, is_at_trap_of, may_have_trapped, may_have_trapped_of, IsNoTrap, IsNoTrapOf}
use Rattle.sv8_step_laws.proofs.Common.{traps_lead_there, trap_types_lead_there}
use Rattle.sv8_watch.specs.Happening.{happening, outcome_of, trap_in, byte_taken}
use Rattle.sv8_watch.specs.declared.condition.Condition.{Condition}
use Rattle.sv8_watch.specs.declared.condition.Condition.TheVariants as condition
use Rattle.sv8_watch.specs.Conditions.{is_reached, is_trap, is_trap_of, is_error, meets}
use Rattle.sv8_watch.specs.Quiet.{TakesNoTrap, TraplessStepsMiss, OtherTypesMiss, QuietStepsMiss}

-- ---- traps

none_in : (os : List Observation) → Each IsNoTrap os → trap_in os ≡ None
none_in [] h = refl
none_in (seen.Fetch from word ∷ os) h = none_in os h.1
none_in (seen.Access kind bytes va pa ∷ os) h = none_in os h.1
none_in (seen.Trap tt ∷ os) h = absurd h.0

no_trap : (running annul runs : Bool) → is_trap (outcome_of running annul runs None) ≡ false
no_trap false annul runs = refl
no_trap true true runs = refl
no_trap true false runs = refl

no_trap_of : (type : ℕ) (running annul runs : Bool) → is_trap_of type (outcome_of running annul runs None) ≡ false
no_trap_of type false annul runs = refl
no_trap_of type true true runs = refl
no_trap_of type true false runs = refl

no_error : (running annul runs : Bool) → is_error (outcome_of running annul runs None) ≡ false
no_error false annul runs = refl
no_error true true runs = refl
no_error true false runs = refl

pub trapless_steps_miss : TraplessStepsMiss
unfolding happening
trapless_steps_miss windows pages schedule n s h =
    let next = step windows pages schedule n s in
    let os = observed windows pages schedule n s in
    let none : trap_in os ≡ None = none_in os (traps_lead_there windows pages schedule n s h) in
    record {
      none = ap (λ t. is_trap (outcome_of s.processor.running s.processor.annul next.processor.running t)) none
          ∙ no_trap s.processor.running s.processor.annul next.processor.running;
      none_of = λ type. ap (λ t. is_trap_of type (outcome_of s.processor.running s.processor.annul next.processor.running t)) none
          ∙ no_trap_of type s.processor.running s.processor.annul next.processor.running;
      no_error = ap (λ t. is_error (outcome_of s.processor.running s.processor.annul next.processor.running t)) none
          ∙ no_error s.processor.running s.processor.annul next.processor.running;
    }

-- the first trap that is seen is none of a type
first_of_type : (type : ℕ) (os : List Observation) → Each (IsNoTrapOf type) os → (running annul runs : Bool) → is_trap_of type (outcome_of running annul runs (trap_in os)) ≡ false
first_of_type type [] h running annul runs = no_trap_of type running annul runs
first_of_type type (seen.Fetch from word ∷ os) h running annul runs = first_of_type type os h.1 running annul runs
first_of_type type (seen.Access kind bytes va pa ∷ os) h running annul runs = first_of_type type os h.1 running annul runs
first_of_type type (seen.Trap t ∷ os) h running annul runs = by_outcome running annul runs
  where
    other : (t == type) ≡ false
    other = grind (arith, nat_tests, h.0)

    by_outcome : (running annul runs : Bool) → is_trap_of type (outcome_of running annul runs (Some t)) ≡ false
    by_outcome false annul runs = refl
    by_outcome true annul true = other
    by_outcome true annul false = other

pub other_types_miss : OtherTypesMiss
unfolding happening
other_types_miss type windows pages schedule n s h =
    first_of_type type (observed windows pages schedule n s) (trap_types_lead_there type windows pages schedule n s h)
    s.processor.running s.processor.annul (step windows pages schedule n s).processor.running

-- ---- the console

none_taken : (schedule : Schedule) (before after : ℕ) → before ≡ after → is_some (byte_taken schedule before after) ≡ false
none_taken schedule before after e =
    ap (λ b. is_some (if b then slice_get (input_bytes schedule.inputs) before else None)) (le-ltb before after (omega (arith, e)))

none_behind : (bytes : List ℕ) (n : ℕ) → length bytes ≤ n → is_some (slice_get bytes n) ≡ false
none_behind bytes n h = ap is_some (slice_get_past bytes n h)

pub quiet_steps_miss : QuietStepsMiss
unfolding happening
quiet_steps_miss = record {
  taken = λ windows pages schedule n s e. none_taken schedule s.memory.taken (step windows pages schedule n s).memory.taken e;
  put = λ windows pages schedule n s e.
      none_behind (step windows pages schedule n s).memory.output (length s.memory.output) (omega (arith, e));
}

-- ---- by a glance at the states before and after a step

-- a condition on traps of any type
pub no_trap_met : (windows pages : ℕ) (schedule : Schedule) (n : ℕ) (s : State) (c : Condition) → (c ≡ condition.Trap) ⊎ (c ≡ condition.Error)
    → may_have_trapped s.processor (step windows pages schedule n s).processor ≡ false → meets windows pages schedule n s c ≡ false
no_trap_met windows pages schedule n s c which h = by_kind which
  where
    it : TakesNoTrap windows pages schedule n s
    it = trapless_steps_miss windows pages schedule n s h

    by_kind : (c ≡ condition.Trap) ⊎ (c ≡ condition.Error) → meets windows pages schedule n s c ≡ false
    by_kind (inl e) = ap (meets windows pages schedule n s) e ∙ it.none
    by_kind (inr e) = ap (meets windows pages schedule n s) e ∙ it.no_error

-- the processor is another place, or in error mode already
pub led_elsewhere : (s next : State) → is_at_trap next.processor ≡ false → may_have_trapped s.processor next.processor ≡ false
led_elsewhere s next h = ap (λ b. s.processor.running && b) h ∙ and-false s.processor.running

pub stood_still : (s next : State) → s.processor.running ≡ false → may_have_trapped s.processor next.processor ≡ false
stood_still s next h = ap (λ b. b && is_at_trap next.processor) h

pub led_elsewhere_of : (type : ℕ) (s next : State) → is_at_trap_of type next.processor ≡ false → may_have_trapped_of type s.processor next.processor ≡ false
led_elsewhere_of type s next h = ap (λ b. s.processor.running && b) h ∙ and-false s.processor.running

pub stood_still_of : (type : ℕ) (s next : State) → s.processor.running ≡ false → may_have_trapped_of type s.processor next.processor ≡ false
stood_still_of type s next h = ap (λ b. b && is_at_trap_of type next.processor) h

-- another PC
pub pc_missed : (windows pages : ℕ) (schedule : Schedule) (n : ℕ) (s : State) (pc address : ℕ) → pc ≡ s.processor.pc → (pc == address) ≡ false
    → meets windows pages schedule n s (condition.Pc address) ≡ false
unfolding happening
pc_missed windows pages schedule n s pc address e h =
    ap (λ b. b && is_reached (outcome_of s.processor.running s.processor.annul (step windows pages schedule n s).processor.running (trap_in (observed windows pages schedule n s))))
    (ap (λ x. x == address) (sym e) ∙ h)

-- the same count
pub same_count : (a b : ℕ) → not (a == b) ≡ false → a ≡ b
same_count a b h = grind (arith, nat_tests, h)

-- the same place of the next byte
pub same_end : (xs ys : List ℕ) (p q : OutputPlace) → IsEnd xs p → IsEnd ys q → p.piece ≡ q.piece → p.place ≡ q.place → length xs ≡ length ys
same_end xs ys p q e f piece place = let first = e.all in let second = f.all in omega (arith, first, second, piece, place)

-- no events
pub event_missed : (windows pages : ℕ) (schedule : Schedule) (n : ℕ) (s : State) → pokes_of_step n schedule.pokes ≡ [] → bytes_of_step n schedule.inputs ≡ []
    → requests_of_step n schedule.requests ≡ [] → meets windows pages schedule n s condition.Event ≡ false
unfolding happening
event_missed windows pages schedule n s pokes bytes requests = rw (pokes, bytes, requests) refl
