-- Steps that were made one after the other, or some of them: what is made of a workbench.
use Rattle.std.proofs.Common.{◌≡◌, ◌∙◌, ◌⊎◌, inl, inr, ℕ, ◌+◌, ◌-◌, ◌/◌, ◌<◌, ◌≤◌, Result, Ok, Err, OnErr, length, refl, sym, ap, subst, arith}
use Rattle.sv8_cpu.specs.Work.{counted, counted_by}
use Rattle.sv8_trace.specs.Recorder.{RaisedUpTo}
use Rattle.sv8_walks.specs.Made.{IsMade, IsUnmade}
use Rattle.sv8_bench.specs.Workbench.{Workbench, checkpoints}
use Rattle.sv8_bench.proofs.Queried.{counted_more, raised_more}
use Rattle.sv8_search.specs.Search.{IsTried, IsWalked, IsStopped}
use Rattle.sv8_search.proofs.Sought.{divided}

-- a step that was tried may be counted
counted_once : {most old new : ℕ} → 0 < most → (new ≡ old) ⊎ (new ≡ counted old) → RaisedUpTo most old new
counted_once some (inl same) = (0, omega arith, same)
counted_once some (inr more) = (1, omega (arith, some), more)

-- of the steps up to another one, the first was tried, and may have been made
pub tried_stopped : {k n to : ℕ} {old new : Workbench} → 0 < k → n < to → IsTried k n old new → IsStopped k n to old new
tried_stopped {k} {n} {to} pos high t =
    let below : (n + 1) / k ≤ to / k = divided k (n + 1) to pos (omega (arith, high)) in
    let most = t.most in
    record { kept = t.kept; fewest = t.fewest; most = omega (arith, most, below); worked = counted_once (omega (arith, high)) t.worked }

-- .. or was not made
pub unmade_stopped : {k n to : ℕ} {old new : Workbench} → n < to → IsUnmade old new → IsStopped k n to old new
unmade_stopped {old = old} {new = new} high u =
    let same : checkpoints new ≡ checkpoints old = ap (λ r. length r.intervals) u.recorded in
    record { kept = u.kept; fewest = omega (arith, same); most = omega (arith, same); worked = counted_once (omega (arith, high)) u.worked }

-- or no step was tried
pub untried_stopped : (k n to : ℕ) (w : Workbench) → IsStopped k n to w w
untried_stopped k n to w = record { kept = refl; fewest = omega arith; most = omega arith; worked = (0, omega arith, refl) }

-- one step
pub made_walked : {k n : ℕ} {old new : Workbench} → IsMade k n old new → IsWalked k n (n + 1) old new
made_walked {k} {n} {old} made =
    let one : 1 ≡ n + 1 - n = omega arith in
    record { kept = made.kept; recorded = made.recorded; worked = made.worked ∙ ap (λ i. counted_by i old.worked) one }

-- recorded steps
pub walked_recorded : {k n m : ℕ} {old new : Workbench} → new.kept ≡ old.kept → checkpoints new ≡ checkpoints old → m / k ≤ checkpoints old → new.worked ≡ counted_by (m - n) old.worked
    → IsWalked k n m old new
walked_recorded kept same within counted = record { kept = kept; recorded = omega (arith, same, within); worked = counted }

module _ {k n m to : ℕ} {old now new : Workbench} (pos : 0 < k) (low : n ≤ m) (high : m ≤ to) (w : IsWalked k n m old now) where
  -- several steps more
  pub walked_further : IsWalked k m to now new → IsWalked k n to old new
  walked_further v =
      let below : m / k ≤ to / k = divided k m to pos high in
      let before = w.recorded in
      let after = v.recorded in
      record {
        kept = v.kept ∙ w.kept;
        recorded = omega (arith, before, after, below);
        worked = counted_more (to - m) (m - n) (to - n) old.worked now.worked new.worked w.worked v.worked (omega (arith, low, high));
      }

  -- .. or some of them
  pub walked_stopped : IsStopped k m to now new → IsStopped k n to old new
  walked_stopped t =
      let below : m / k ≤ to / k = divided k m to pos high in
      let before = w.recorded in
      let fewest = t.fewest in
      let most = t.most in
      record {
        kept = t.kept ∙ w.kept;
        fewest = omega (arith, before, fewest);
        most = omega (arith, before, most, below);
        worked = raised_more (m - n) (to - m) (to - n) old.worked now.worked new.worked w.worked t.worked (omega (arith, low, high));
      }

-- .. or no other
pub walked_abandoned : {k n m to : ℕ} {old new : Workbench} → 0 < k → n ≤ m → m ≤ to → IsWalked k n m old new → IsStopped k n to old new
walked_abandoned {k} {n} {m} {to} {old} {new} pos low high w = walked_stopped pos low high w (untried_stopped k m to new)

-- .. or one more
pub walked_made : {k n m at next : ℕ} {old now new : Workbench} → 0 < k → n ≤ m → IsWalked k n m old now → at ≡ m → next ≡ m + 1 → IsMade k at now new → IsWalked k n next old new
walked_made {k} {n} {m} {old = old} {now = now} {new = new} pos low w here there made =
    subst (λ x. IsWalked k n x old new) (sym there) (walked_further pos low (omega arith) w (made_walked (subst (λ x. IsMade k x now new) here made)))

-- where there is an error, as where there is none
pub on_any_err : {A E P : Type 0} (r : Result A E) → P → OnErr r P
on_any_err (Ok x) p = tt
on_any_err (Err e) p = p
