-- Where ranges of steps are refused. A query of a step that can be shown fails for want of memory alone.
use Rattle.std.proofs.Common.{◌≡◌, ◌∙◌, ◌⊎◌, inl, inr, ℕ, ◌<◌, ◌≤◌, true, false, ltb, Some, None, refl, sym, arith, tests}
use Rattle.std.proofs.lemmas.Option.{none-some}
use Rattle.sv8_model.specs.declared.refused.Refused.{Refused}
use Rattle.sv8_model.specs.declared.refused.Refused.TheVariants.{OutOfMemory, By}
use Rattle.sv8_model.specs.Refused.{IsRefused}
use Rattle.sv8_time.specs.declared.fault.TimeFault.TheVariants.{StepTooLarge}
use Rattle.sv8_workbench.specs.declared.fault.BenchFault.{BenchFault}
use Rattle.sv8_workbench.specs.declared.fault.BenchFault.TheVariants.{Time}
use Rattle.sv8_workbench.specs.Faults.{step_refusal}
use Rattle.sv8_search.specs.Comparing.{range_refusal}

pub range-right : (from to : ℕ) → from ≤ 1000000 → to ≤ 1000000 → range_refusal from to ≡ None
range-right from to p q =
    let first : ltb 1000000 from ≡ false = search (arith, tests) in
    let second : ltb 1000000 to ≡ false = search (arith, tests) in
    rw (first, second) refl

-- the second one is looked at where the first one is right
pub range-wrong : (from to : ℕ) → (1000000 < from) ⊎ ((from ≤ 1000000) × (1000000 < to)) → range_refusal from to ≡ Some (Time StepTooLarge)
range-wrong from to (inl p) = let first : ltb 1000000 from ≡ true = search (arith, tests) in rw first refl
range-wrong from to (inr (p, q)) =
    let first : ltb 1000000 from ≡ false = search (arith, tests) in
    let second : ltb 1000000 to ≡ true = search (arith, tests) in
    rw (first, second) refl

shown : (step : ℕ) → step ≤ 1000000 → step_refusal step ≡ None
unfolding step_refusal
shown step low = search (arith, tests, low)

pub lacking : (step from to : ℕ) (fault : Refused BenchFault) → step ≤ 1000000 → from ≤ 1000000 → to ≤ 1000000 → IsRefused (step_refusal step) fault
    → IsRefused (range_refusal from to) fault
lacking step from to OutOfMemory here low high h = range-right from to low high
lacking step from to (By fault) here low high h = absurd (none-some fault (sym (shown step here) ∙ h))
