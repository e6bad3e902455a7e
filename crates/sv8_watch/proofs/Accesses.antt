-- A step of which no access was seen that a condition asks for does not meet it.
use Rattle.std.proofs.Common.{◌≡◌, ◌∙◌, ℕ, Bool, false, List, sym, ap}
use Rattle.sv8_model.specs.declared.observation.AccessKind.{AccessKind}
use Rattle.sv8_model.specs.declared.observation.Observation.{Observation}
use Rattle.sv8_time.specs.Schedule.{Schedule}
use Rattle.sv8_cpu.specs.State.{State}
use Rattle.sv8_cpu.specs.Run.{observed}
use Rattle.sv8_watch.specs.Happening.{access_in, happening}
use Rattle.sv8_watch.specs.Conditions.{accesses}

-- the access of a step is the one that was seen
pub unaccessed : (kinds : AccessKind → Bool) (windows pages : ℕ) (schedule : Schedule) (n : ℕ) (s : State) (address count : ℕ) (os : List Observation)
    → os ≡ observed windows pages schedule n s → accesses kinds address count (access_in os) ≡ false
    → accesses kinds address count (happening windows pages schedule n s).access ≡ false
unfolding happening
unaccessed kinds windows pages schedule n s address count os is none = ap (λ xs. accesses kinds address count (access_in xs)) (sym is) ∙ none
