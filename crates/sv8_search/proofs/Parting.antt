-- Two runs that are walked side by side: what is seen of both at a step is so of what they keep.
use Rattle.std.proofs.Common.{◌≡◌, ◌∙◌, ◌⊎◌, inl, inr, ℕ, ◌+◌, ◌<◌, ◌≤◌, ltb, max, Bool, true, false, Option, Some, None, refl, sym, ap, arith, tests, subst}
use Rattle.std.proofs.lemmas.Bool.{cases_eq}
use Rattle.sv8_regs.specs.Current.{other_windows}
use Rattle.sv8_trap.specs.Processor.{Processor}
use Rattle.sv8_cpu.specs.State.{State}
use Rattle.sv8_cpu.specs.Sameness.{IsSameProcessor}
use Rattle.sv8_bench.specs.Alike.{AreAlikeUpTo}
use Rattle.sv8_workbench.specs.Kept.{Kept}
use Rattle.sv8_workbench.specs.Shown.{machine_state}
use Rattle.sv8_walks.specs.Walks.{state_in}
use Rattle.sv8_bench.specs.Workbench.{Workbench}
use Rattle.sv8_search.specs.declared.compare.Both.{Both}
use Rattle.sv8_search.specs.Comparing.{AreSameOutside, AreWalks, AreAlike, IsParted}
use Rattle.sv8_search.proofs.Searching.{next_state}
use Rattle.sv8_step_laws.proofs.Common.{other_windows_stay}

module _ {windows pages : ℕ} (k : ℕ) (first second now before : Workbench) (both : Both windows pages)
    (walks : AreWalks k now before both.walk.step both) (same_now : now.kept ≡ first.kept) (same_before : before.kept ≡ second.kept) where
  now_is : state_in both.walk.place ≡ machine_state first.kept both.walk.step
  now_is = walks.now_walk.state ∙ ap (λ kept. machine_state kept both.walk.step) same_now

  before_is : state_in both.other.place ≡ machine_state second.kept both.walk.step
  before_is = walks.before_walk.state ∙ ap (machine_state before.kept) walks.before_step ∙ ap (λ kept. machine_state kept both.walk.step) same_before

  pub alike_at : IsSameProcessor (state_in both.other.place) (state_in both.walk.place) → AreAlike second.kept first.kept both.walk.step
  alike_at h =
      subst (λ (s : State). IsSameProcessor s (machine_state first.kept both.walk.step)) before_is
      (subst (λ (s : State). IsSameProcessor (state_in both.other.place) s) now_is h)

  -- and the other way
  pub alike_in : AreAlike second.kept first.kept both.walk.step → IsSameProcessor (state_in both.other.place) (state_in both.walk.place)
  alike_in a =
      subst (λ (s : State). IsSameProcessor s (state_in both.walk.place)) (sym before_is)
      (subst (λ (s : State). IsSameProcessor (machine_state second.kept both.walk.step) s) (sym now_is) a)

  pub unlike_at : (IsSameProcessor (state_in both.other.place) (state_in both.walk.place) → ⊥) → AreAlike second.kept first.kept both.walk.step → ⊥
  unlike_at h a = h (alike_in a)

-- ---- the registers outside a window, which stays the current one

-- those of one run
others_stay : (nw w n : ℕ) (kept : Kept) (s : State) → kept.windows ≡ nw → 2 ≤ nw → w < nw → (machine_state kept n).processor.registers.cwp ≡ w
    → s ≡ machine_state kept (n + 1) → s.processor.registers.cwp ≡ w
    → other_windows nw s.processor.registers ≡ other_windows nw (machine_state kept n).processor.registers
others_stay nw w n kept s sized two w_in cwp is same =
    let old = machine_state kept n in
    let next = is ∙ next_state kept n in
    let law = other_windows_stay kept.windows kept.pages kept.timeline n old (omega (arith, sized, two)) (omega (arith, sized, w_in, cwp)) in
    let stays = law.others (sym (ap (λ (x : State). x.processor.registers.cwp) next) ∙ same ∙ sym cwp) in
    subst (λ k. other_windows k s.processor.registers ≡ other_windows k old.processor.registers) sized
    (ap (λ (x : State). other_windows kept.windows x.processor.registers) next ∙ stays)

-- so those of two runs that had the same processor are the same
pub outside_stays : (nw w n : ℕ) (before now : Kept) (s t : State) → before.windows ≡ nw → now.windows ≡ nw → 2 ≤ nw → w < nw
    → (machine_state now n).processor.registers.cwp ≡ w → AreAlike before now n → s ≡ machine_state before (n + 1) → t ≡ machine_state now (n + 1)
    → AreSameOutside nw w s t
outside_stays nw w n before now s t before_sized now_sized two w_in cwp alike s_is t_is before_same now_same =
    let processors = alike.processor in
    let before_cwp = ap (λ (p : Processor). p.registers.cwp) processors ∙ cwp in
    others_stay nw w n before s before_sized two w_in before_cwp s_is before_same
    ∙ ap (λ (p : Processor). other_windows nw p.registers) processors
    ∙ sym (others_stay nw w n now t now_sized two w_in cwp t_is now_same)

-- so are those of two walks, behind a step in front of which they had the same processor
pub same_outside : {windows pages : ℕ} (k nw n w : ℕ) (first second now before : Workbench) (both : Both windows pages) → first.kept.windows ≡ nw → second.kept.windows ≡ nw → 2 ≤ nw
    → w < nw → AreWalks k now before both.walk.step both → now.kept ≡ first.kept → before.kept ≡ second.kept → both.walk.step ≡ n + 1
    → (machine_state first.kept n).processor.registers.cwp ≡ w → AreAlike second.kept first.kept n → AreSameOutside nw w (state_in both.other.place) (state_in both.walk.place)
same_outside k nw n w first second now before both now_sized before_sized two w_in walks same_now same_before next cwp alike =
    outside_stays nw w n second.kept first.kept (state_in both.other.place) (state_in both.walk.place) before_sized now_sized two w_in cwp alike
    (before_is k first second now before both walks same_now same_before ∙ ap (machine_state second.kept) next)
    (now_is k first second now before both walks same_now same_before ∙ ap (machine_state first.kept) next)

-- the current window of the first run
pub window_at : {windows pages : ℕ} (k w : ℕ) (first second now before : Workbench) (both : Both windows pages) → AreWalks k now before both.walk.step both
    → now.kept ≡ first.kept → before.kept ≡ second.kept → w ≡ (state_in both.walk.place).processor.registers.cwp
    → (machine_state first.kept both.walk.step).processor.registers.cwp ≡ w
window_at k w first second now before both walks same_now same_before is =
    sym (is ∙ ap (λ (x : State). x.processor.registers.cwp) (now_is k first second now before both walks same_now same_before))

-- ---- several steps

module _ (first second now before : Kept) (same_now : now ≡ first) (same_before : before ≡ second) where
  -- what is so of workbenches that keep the same
  pub alike_kept : (n : ℕ) → AreAlike before now n → AreAlike second first n
  alike_kept n alike = subst (λ (k : Kept). AreAlike second k n) same_now (subst (λ (k : Kept). AreAlike k now n) same_before alike)

  pub unlike_kept : (n : ℕ) → (AreAlike before now n → ⊥) → AreAlike second first n → ⊥
  unlike_kept n unlike alike = unlike (subst (λ (k : Kept). AreAlike before k n) (sym same_now) (subst (λ (k : Kept). AreAlike k first n) (sym same_before) alike))

  -- the steps behind some others
  pub alike_further : (from n next : ℕ) → ((m : ℕ) → from ≤ m → m < n + 1 → AreAlike second first m) → ((m : ℕ) → n ≤ m → m < next → AreAlike before now m)
      → (m : ℕ) → from ≤ m → m < next → AreAlike second first m
  alike_further from n next alike more m low high = go (ltb m n) refl where
    go : (b : Bool) → ltb m n ≡ b → AreAlike second first m
    go true e = let below : m < n = search (arith, tests) in alike m low (omega (arith, below))
    go false e = let above : n ≤ m = search (arith, tests) in alike_kept m (more m above high)

-- one step more at which something holds
pub below_more : (P : ℕ → Type 0) (from n : ℕ) → ((m : ℕ) → from ≤ m → m < n → P m) → P n → (m : ℕ) → from ≤ m → m < n + 1 → P m
below_more P from n below here m low high = elim (cases_eq m n) [
  | inl same ↦ subst P (sym same) here
  | inr differs ↦ below m low (omega (arith, high, differs))
]
