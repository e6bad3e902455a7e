-- What happened in a step, from the states before and after it and from what an observer sees of it.
use Rattle.std.specs.Prelude.{ℕ, ◌||◌, Bool, true, false, nat_lt, List, [], ◌∷◌, length, slice_get, Option, Some, None, if◌then◌else◌}
use Rattle.sv8_model.specs.declared.observation.Observation.{Observation}
use Rattle.sv8_model.specs.declared.observation.Observation.TheVariants as seen
use Rattle.sv8_model.specs.Footprint.{expires}
use Rattle.sv8_time.specs.Schedule.{Schedule, input_bytes, pokes_of_step, bytes_of_step, requests_of_step}
use Rattle.sv8_cpu.specs.State.{State}
use Rattle.sv8_cpu.specs.Run.{step, footprint, observed}
use Rattle.sv8_watch.specs.declared.happening.Outcome.{Outcome}
use Rattle.sv8_watch.specs.declared.happening.Outcome.TheVariants.{Stop, Error, Trap, Annul, Run}
use Rattle.sv8_watch.specs.declared.happening.Fetch.{Fetch}
use Rattle.sv8_watch.specs.declared.happening.Access.{Access}
use Rattle.sv8_watch.specs.declared.happening.Happening.{Happening}

-- ---- what an observer saw; of each kind there is one in a step at most

abbrev pub fetch_in : List Observation → Option Fetch
fetch_in [] = None
fetch_in (seen.Fetch from word ∷ os) = Some (record { from = from; word = word })
fetch_in (o ∷ os) = fetch_in os

abbrev pub access_in : List Observation → Option Access
access_in [] = None
access_in (seen.Access kind bytes va pa ∷ os) = Some (record { kind = kind; bytes = bytes; va = va; pa = pa })
access_in (o ∷ os) = access_in os

abbrev pub trap_in : List Observation → Option ℕ
trap_in [] = None
trap_in (seen.Trap tt ∷ os) = Some tt
trap_in (o ∷ os) = trap_in os

-- ---- how the step ended

-- the machine ran, an annulled slot was in front of it, it runs afterwards, and this trap was seen
abbrev pub outcome_of : Bool → Bool → Bool → Option ℕ → Outcome
outcome_of false annul runs trap = Stop
outcome_of true annul true (Some tt) = Trap tt
outcome_of true annul false (Some tt) = Error tt
outcome_of true true runs None = Annul
outcome_of true false runs None = Run

-- ---- the console, by the number of bytes taken and by the output, before and after

abbrev pub byte_taken : Schedule → ℕ → ℕ → Option ℕ
byte_taken schedule before after = if nat_lt before after then slice_get (input_bytes schedule.inputs) before else None

-- the byte behind those that were put out before
abbrev pub byte_put : List ℕ → List ℕ → Option ℕ
byte_put before after = slice_get after (length before)

-- ---- events

abbrev pub is_some_of : {A : Type 0} → List A → Bool
is_some_of [] = false
is_some_of (x ∷ xs) = true

-- something stands in the timeline at a step
abbrev pub stands_at : Schedule → ℕ → Bool
stands_at schedule n = is_some_of (pokes_of_step n schedule.pokes) || (is_some_of (bytes_of_step n schedule.inputs) || is_some_of (requests_of_step n schedule.requests))

-- ---- the whole

-- from what is known of a step: the states before and after, what was seen, and whether the timer expired
abbrev pub happened : Schedule → ℕ → State → State → List Observation → Bool → Happening
happened schedule n before after os expired = record {
  pc = before.processor.pc;
  fetch = fetch_in os;
  outcome = outcome_of before.processor.running before.processor.annul after.processor.running (trap_in os);
  access = access_in os;
  taken = byte_taken schedule before.memory.taken after.memory.taken;
  put = byte_put before.memory.output after.memory.output;
  expired = expired;
  event = stands_at schedule n;
}

-- what happened in step n from a state on
unfoldable pub happening : ℕ → ℕ → Schedule → ℕ → State → Happening
happening windows pages schedule n s =
    happened schedule n s (step windows pages schedule n s) (observed windows pages schedule n s) (expires (footprint windows pages schedule n s))
