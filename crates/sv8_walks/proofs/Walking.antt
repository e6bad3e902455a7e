-- Walks: what is recorded of each step, and how many are made.
use Rattle.std.proofs.Common.{◌≡◌, ◌∙◌, ℕ, suc, ◌+◌, ◌-◌, ◌*◌, ◌/◌, ◌<◌, ◌≤◌, ◌⊎◌, inl, inr, max, ap, arith, subst}
use Rattle.std.proofs.Math.Nat.{div-lt_iff_lt-mul}
use Rattle.sv8_cpu.specs.State.{State}
use Rattle.sv8_cpu.specs.Work.{counted, counted_by}
use Rattle.sv8_trace.specs.Recorder.{RaisedUpTo}
use Rattle.sv8_trace.specs.Recording.{recorded}
use Rattle.sv8_walks.specs.Made.{IsMade}
use Rattle.sv8_bench.specs.Workbench.{Workbench, checkpoints}
use Rattle.sv8_bench.proofs.Queried.{full}
use Rattle.sv8_walks.specs.Walks.{IsPlaced}
use Rattle.sv8_walks.specs.declared.walk.Place.{Place}
use Rattle.sv8_walks.specs.declared.walk.Place.TheVariants.{Restored}

-- a step up to the last checkpoint leads to no other one
pub no_more : (k count n : ℕ) → 0 < k → n < 1000000 → (n < k * count) ⊎ (1000000 < k * count + k) → count ≡ max count ((n + 1) / k)
no_more k count n pos within (inl below) = let most = full k count (n + 1) pos (omega (arith, below, pos)) in omega (arith, most)
no_more k count n pos within (inr last) = let most = full k count (n + 1) pos (omega (arith, within, last)) in omega (arith, most)

-- where a walk stands behind it
pub placed_next : (k count n : ℕ) → (n < k * count) ⊎ (1000000 < k * count + k) → (n + 1 ≤ k * count) ⊎ (1000000 < k * count + k)
placed_next k count n (inl below) = inl (omega (arith, below))
placed_next k count n (inr last) = inr last

-- ---- several steps

-- a step below the next checkpoint leaves the count of checkpoints
pub none_more : (k count n step : ℕ) → 0 < k → n < step → step / k ≤ count → max count ((n + 1) / k) ≡ count
none_more k count n step pos below all =
    let most : (n + 1) / k ≤ count = div_up k count n step pos below all in
    omega (arith, most)
  where
    div_up : (k count n step : ℕ) → 0 < k → n < step → step / k ≤ count → (n + 1) / k ≤ count
    div_up k count n step pos below all =
        let over : step < (count + 1) * k = (div-lt_iff_lt-mul pos).0 (omega (arith, all)) in
        let under : (n + 1) / k < count + 1 = (div-lt_iff_lt-mul pos).1 (omega (arith, over, below)) in
        omega (arith, under)

-- one step more
pub step_counted : (n from first now new : ℕ) → from ≤ n → now ≡ counted_by (n - from) first → new ≡ counted now → new ≡ counted_by (n + 1 - from) first
step_counted n from first now new low e f =
    let more : suc (n - from) ≡ n + 1 - from = omega (arith, low) in
    f ∙ ap counted e ∙ ap (λ x. counted_by x first) more

-- a step that is not below the last checkpoint, where another one can follow, is its step
pub at_the_last : (k n last : ℕ) → last + k ≤ 1000000 → last ≤ n → (n ≤ last) ⊎ (1000000 < last + k) → n ≡ last
at_the_last k n last room low (inl high) = omega (arith, low, high)
at_the_last k n last room low (inr over) = absurd (omega (arith, room, over))

-- where a walk stands that has the machine alone
pub placed_restored : {windows pages : ℕ} (k : ℕ) (w : Workbench) (n : ℕ) (p : Place windows pages) (s : State) → p ≡ Restored s → IsPlaced k w n p
    → (n ≤ recorded k w.recording) ⊎ (1000000 < recorded k w.recording + k)
placed_restored {windows} {pages} k w n p s e h = subst (λ (q : Place windows pages). IsPlaced k w n q) e h

-- a step that was tried after others
pub raised_tried : (n from all first now new : ℕ) → from ≤ n → n < all → now ≡ counted_by (n - from) first → (new ≡ now) ⊎ (new ≡ counted now) → RaisedUpTo (all - from) first new
raised_tried n from all first now new low below e (inl same) = (n - from, omega (arith, below), same ∙ e)
raised_tried n from all first now new low below e (inr more) = (n + 1 - from, omega (arith, below, low), step_counted n from first now new low e more)

-- a step of which nothing is recorded was made, once it is counted
pub counted_step : (k n : ℕ) (old new : Workbench) → new ≡ record old { worked = counted old.worked } → 0 < k → n < 1000000
    → (n < recorded k old.recording) ⊎ (1000000 < recorded k old.recording + k) → IsMade k n old new
counted_step k n old new is pos within placed = record {
  kept = ap (λ (w : Workbench). w.kept) is;
  recorded = ap checkpoints is ∙ no_more k (checkpoints old) n pos within placed;
  worked = ap (λ (w : Workbench). w.worked) is;
}
