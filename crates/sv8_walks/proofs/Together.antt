-- Two walks that go on together.
use Rattle.std.proofs.Common.{◌≡◌, inl, inr, ℕ, ◌+◌, ◌-◌, ◌*◌, ◌/◌, ◌<◌, ◌≤◌, Bool, true, false, MatchBool, refl, sym, ap, arith, subst}
use Rattle.std.proofs.lemmas.Bool.{cases_eq}
use Rattle.sv8_time.specs.Schedule.{Schedule, bytes_below}
use Rattle.sv8_cpu.specs.State.{State}
use Rattle.sv8_cpu.specs.Run.{step}
use Rattle.sv8_cpu.specs.Sameness.{IsSameProcessor}
use Rattle.sv8_cpu.specs.Work.{counted_by}
use Rattle.sv8_workbench.specs.Kept.{Kept}
use Rattle.sv8_workbench.specs.Shown.{machine_state}
use Rattle.sv8_bench.proofs.Queried.{full}
use Rattle.sv8_walks.proofs.Made.{state_fed, state_next}
use Rattle.sv8_walks.specs.Together.{AreAlikeBetween, AreInLockstep}

-- what follows in both cases
pub either : {P P1 Q Q1 : Type 0} (b : Bool) → (P → P1) → (Q → Q1) → MatchBool b P Q → MatchBool b P1 Q1
either true f g h = f h
either false f g h = g h

pub chosen : (P Q : Type 0) (b : Bool) → b ≡ true → MatchBool b P Q → P
chosen P Q b is h = subst (λ x. MatchBool x P Q) is h

pub made_if : (P Q : Type 0) (b : Bool) → b ≡ true → P → MatchBool b P Q
made_if P Q b is h = subst (λ x. MatchBool x P Q) (sym is) h

-- the bytes that a state has taken have come in, and the step behind it leads to the next one, by the sizes and the timeline that are known
pub fed_by : (kept : Kept) (n : ℕ) (timeline : Schedule) (s : State) → timeline ≡ kept.timeline → s ≡ machine_state kept n → s.memory.taken ≤ bytes_below n timeline.inputs
fed_by kept n timeline s is e = rw is (state_fed kept n s e)

pub next_state : (kept : Kept) (windows pages n : ℕ) (timeline : Schedule) (s next : State) → kept.windows ≡ windows → kept.pages ≡ pages → timeline ≡ kept.timeline
    → s ≡ machine_state kept n → next ≡ step windows pages timeline n s → next ≡ machine_state kept (n + 1)
next_state kept windows pages n timeline s next w p t e f = state_next kept n s next e (rw (w, p, ← t) f)

-- both have the same processor there
pub same_processors : (now before : Kept) (n : ℕ) (s t : State) → AreInLockstep now before n s t → IsSameProcessor (machine_state before n) (machine_state now n)
same_processors now before n s t in_lockstep =
    subst (λ (x : State). IsSameProcessor (machine_state before n) x) in_lockstep.state
    (subst (λ (x : State). IsSameProcessor x s) in_lockstep.others (record { processor = refl; mmu = in_lockstep.mmu }))

-- .. at that step
pub alike_first : (now before : Kept) (n : ℕ) (s t : State) → AreInLockstep now before n s t → AreAlikeBetween n n before now
alike_first now before n s t in_lockstep = record {
  processors = λ m low high. let same : n ≡ m = omega (arith, low, high) in
      subst (λ x. IsSameProcessor (machine_state before x) (machine_state now x)) same (same_processors now before n s t in_lockstep);
}

-- .. and at one more
pub alike_next : (now before : Kept) (first n : ℕ) (s t : State) → AreAlikeBetween first n before now → AreInLockstep now before (n + 1) s t → AreAlikeBetween first (n + 1) before now
alike_next now before first n s t alike in_lockstep = record { processors = each } where
  each : (m : ℕ) → first ≤ m → m ≤ n + 1 → IsSameProcessor (machine_state before m) (machine_state now m)
  each m low high = elim (cases_eq m (n + 1)) [
    | inl same ↦ subst (λ x. IsSameProcessor (machine_state before x) (machine_state now x)) (sym same) (same_processors now before (n + 1) s t in_lockstep)
    | inr differs ↦ alike.processors m low (omega (arith, high, differs))
  ]

-- recorded steps lead to no other checkpoint
pub recorded_within : (k count n : ℕ) → 0 < k → n ≤ k * count → n / k ≤ count
recorded_within k count n pos low = full k count n pos (omega (arith, low, pos))

-- no step is counted so far
pub none_counted : (from worked : ℕ) → worked ≡ counted_by (from - from) worked
none_counted from worked = let none : 0 ≡ from - from = omega arith in ap (λ i. counted_by i worked) none
