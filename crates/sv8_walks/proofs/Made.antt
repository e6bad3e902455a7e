-- Steps that are made for a walk: each leads on from the state of the one before, and what is recorded of it.
use Rattle.std.proofs.Common.{◌≡◌, ◌∙◌, ℕ, suc, ◌+◌, ◌*◌, ◌/◌, ◌<◌, ◌≤◌, max, sym, ap, arith, subst}
use Rattle.std.proofs.Math.Nat.{le-div_iff_mul-le, mul_comm}
use Rattle.sv8_time.specs.Schedule.{bytes_below}
use Rattle.sv8_cpu.specs.State.{State}
use Rattle.sv8_cpu.specs.Run.{step, steps}
use Rattle.sv8_edits.proofs.Common.{fed}
use Rattle.sv8_workbench.specs.Kept.{Kept}
use Rattle.sv8_workbench.specs.Shown.{machine_state}
use Rattle.sv8_bench.proofs.Queried.{full}

-- ---- states

-- the bytes that a state has taken have come in
pub state_fed : (kept : Kept) (n : ℕ) (s : State) → s ≡ machine_state kept n → s.memory.taken ≤ bytes_below n kept.timeline.inputs
state_fed kept n s e =
    subst (λ (x : State). x.memory.taken ≤ bytes_below n kept.timeline.inputs) (sym e) (fed kept.windows kept.pages kept.source kept.timeline n)

-- the step behind it leads to the next one
pub state_next : (kept : Kept) (n : ℕ) (s next : State) → s ≡ machine_state kept n → next ≡ step kept.windows kept.pages kept.timeline n s
    → next ≡ machine_state kept (n + 1)
unfolding steps
state_next kept n s next e f =
    let more : suc n ≡ n + 1 = omega arith in
    f ∙ ap (step kept.windows kept.pages kept.timeline n) e ∙ ap (machine_state kept) more

-- ---- how many checkpoints there are

-- so many intervals, and fewer steps than would make the next one
pub in_interval : (k count rest n : ℕ) → 0 < k → rest < k → k * count + rest ≡ n → n / k ≡ count
in_interval k count rest n pos few e =
    let least : count ≤ n / k = (le-div_iff_mul-le pos).1 (omega (arith, e, mul_comm count k)) in
    let most = full k count n pos (omega (arith, e, few)) in
    omega (arith, least, most)

-- a step above the last checkpoint leads to the next one, or to none
pub one_more : (k count new rest more n : ℕ) → 0 < k → rest < k → k * count + rest ≡ n → more < k → k * new + more ≡ n + 1 → new ≡ max count ((n + 1) / k)
one_more k count new rest more n pos few e later f =
    let there = in_interval k new more (n + 1) pos later f in
    let up : count ≤ (n + 1) / k = (le-div_iff_mul-le pos).1 (omega (arith, e, mul_comm count k)) in
    omega (arith, there, up)
