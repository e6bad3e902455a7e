use Rattle.std.proofs.Common.{◌≡◌, ◌∙◌, ℕ, ◌*◌, ◌<◌, ◌≤◌, ◌⊎◌, inl, inr, Bool, cond, List, Option, Some, None, IfSome, refl, sym, ap, subst, arith}
use Rattle.std.proofs.lemmas.Bool.{le-leb, lt-leb}
use Rattle.std.proofs.lemmas.Result.{err_from_is_err_and}
use Rattle.sv8_phys.specs.Memory.{ram_size}
use Rattle.sv8_watch.specs.declared.condition.Condition.{Condition}
use Rattle.sv8_time.specs.declared.fault.TimeFault.TheVariants.{StepTooLarge, BadAddress}
use Rattle.sv8_workbench.specs.declared.fault.BenchFault.{BenchFault}
use Rattle.sv8_workbench.specs.declared.fault.BenchFault.TheVariants.{Time}
use Rattle.sv8_workbench.specs.Faults.{step_refusal}
use Rattle.sv8_workbench.specs.Kept.{Kept}
use Rattle.sv8_search.specs.Search.{are_inside, steps_refusal}
use Rattle.sv8_search.proofs.search.steps.Goals as goal
use Rattle.sv8_search.proofs.search.steps.Goals.{then-from-gt-LAST_STEP-via-then-from-gt-LAST_STEP, then-from-gt-LAST_STEP-via-else-from-gt-LAST_STEP+then-to-gt-LAST_STEP}

within : (step : ℕ) → step ≤ 1000000 → step_refusal step ≡ None
unfolding step_refusal
within step h = ap (λ b. cond b None (Some (Time StepTooLarge))) (le-leb step 1000000 h)

above : (step : ℕ) → 1000000 < step → step_refusal step ≡ Some (Time StepTooLarge)
unfolding step_refusal
above step h = ap (λ b. cond b None (Some (Time StepTooLarge))) (lt-leb step 1000000 h)

-- steps that are not refused, with what the conditions come to
steps_within : (from to pages : ℕ) (cs : List Condition) (k : Kept) (inside b : Bool) → from ≤ 1000000 → to ≤ 1000000 → k.pages ≡ pages → inside ≡ are_inside (ram_size pages) cs
    → inside ≡ b → steps_refusal from to cs k ≡ cond b None (Some (Time BadAddress))
steps_within from to pages cs k inside b f t p e h =
    let same : are_inside (4096 * k.pages) cs ≡ b = ap (λ n. are_inside (4096 * n) cs) p ∙ sym e ∙ h in
    rw (within from f, within to t, same) refl

too_large : (from to : ℕ) (cs : List Condition) (k : Kept) → (1000000 < from) ⊎ ((from ≤ 1000000) × (1000000 < to)) → steps_refusal from to cs k ≡ Some (Time StepTooLarge)
too_large from to cs k (inl f) = rw (above from f) refl
too_large from to cs k (inr h) = rw (within from h.0, above to h.1) refl

-- a refusal that there is none of
unrefused : (P : BenchFault → Type 0) (refusal : Option BenchFault) → refusal ≡ None → IfSome refusal P
unrefused P refusal e = subst (λ (r : Option BenchFault). IfSome r P) (sym e) tt

pub returns-then-from-gt-LAST_STEP-clause-refused : goal.returns-then-from-gt-LAST_STEP-clause-refused
returns-then-from-gt-LAST_STEP-clause-refused g c =
    let which : (1000000 < c.args.from) ⊎ ((c.args.from ≤ 1000000) × (1000000 < c.args.to)) =
    elim c.then-from-gt-LAST_STEP.branch
    [ then-from-gt-LAST_STEP-via-then-from-gt-LAST_STEP w ↦ inl (omega arith) | then-from-gt-LAST_STEP-via-else-from-gt-LAST_STEP+then-to-gt-LAST_STEP w ↦ inr (omega arith, omega arith) ] in
    too_large c.args.from c.args.to c.args.conditions.now c.args.bench.now.kept which

pub returns-then-not-are_inside-clause-refused : goal.returns-then-not-are_inside-clause-refused
returns-then-not-are_inside-clause-refused g c =
    steps_within _ _ _ c.args.conditions.now c.args.bench.now.kept _ _ c.if-from-gt-LAST_STEP.false c.if-to-gt-LAST_STEP.false c.sizes.ensures.pages c.are_inside.ensures c.if-not-are_inside.true

pub returns-in_err-found-clause-refused : goal.returns-in_err-found-clause-refused
returns-in_err-found-clause-refused g c =
    let p = err_from_is_err_and c.from_residual.result c.from_residual.ensures.1 in
    let none = steps_within _ _ _ c.args.conditions.now c.args.bench.now.kept _ _ c.if-from-gt-LAST_STEP.false c.if-to-gt-LAST_STEP.false c.sizes.ensures.pages c.are_inside.ensures c.if-not-are_inside.false in
    rw (p.1, p.2) none

pub returns-in_err-found-clause-untouched : goal.returns-in_err-found-clause-untouched
returns-in_err-found-clause-untouched g c =
    unrefused (λ e. c.search.new.bench ≡ c.args.bench.now) (steps_refusal c.args.from c.args.to c.args.conditions.now c.args.bench.now.kept)
    (steps_within _ _ _ c.args.conditions.now c.args.bench.now.kept _ _ c.if-from-gt-LAST_STEP.false c.if-to-gt-LAST_STEP.false c.sizes.ensures.pages c.are_inside.ensures c.if-not-are_inside.false)

pub returns-clause-within : goal.returns-clause-within
returns-clause-within g c =
    steps_within _ _ _ c.args.conditions.now c.args.bench.now.kept _ _ c.if-from-gt-LAST_STEP.false c.if-to-gt-LAST_STEP.false c.sizes.ensures.pages c.are_inside.ensures c.if-not-are_inside.false

pub returns-clause-untouched : goal.returns-clause-untouched
returns-clause-untouched g c =
    unrefused (λ e. c.search.new.bench ≡ c.args.bench.now) (steps_refusal c.args.from c.args.to c.args.conditions.now c.args.bench.now.kept)
    (steps_within _ _ _ c.args.conditions.now c.args.bench.now.kept _ _ c.if-from-gt-LAST_STEP.false c.if-to-gt-LAST_STEP.false c.sizes.ensures.pages c.are_inside.ensures c.if-not-are_inside.false)
