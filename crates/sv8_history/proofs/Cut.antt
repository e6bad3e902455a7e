-- Traces that are cut, and traces that show the same.
use Rattle.std.proofs.Common.{◌≡◌, ℕ, ◌*◌, ◌<◌, ◌≤◌, cond, ltb, None, ◌∙◌, arith, inl, inr, ◌⊎◌, lt-ltb, le-ltb, mul-le-mul_left}
use Rattle.std.proofs.lemmas.Bool.{cases_lt}
use Rattle.sv8_history.specs.Machine.{Machine, footprint_at}
use Rattle.sv8_history.specs.Trace.{kept_at}
use Rattle.sv8_history.specs.Laws.{CutKeeps, AgreesKeeps}
use Rattle.sv8_history.proofs.Footprints.{footprint_then}

pub cut_keeps : (m : Machine) → CutKeeps m
cut_keeps m k run trace count less right = record {
  points = λ i h. right.points i (omega arith);
  notes = λ n h. right.notes n (let l : k * count ≤ k * trace.count = mul-le-mul_left k less in omega arith);
  kept = λ n a. keeps n a (cases_lt n (k * count));
}
  where
    keeps : (n : ℕ) (a : m.Cell) → (n < k * count) ⊎ (k * count ≤ n) → cond (ltb n (k * count)) (trace.kept n a) None ≡ kept_at m k run (k * count) n a
    keeps n a (inl h) =
        let l : k * count ≤ k * trace.count = mul-le-mul_left k less in
        let q = right.kept n a in
        let q2 = rw (lt-ltb n (k * trace.count) (omega arith)) at q in
        rw (lt-ltb n (k * count) h) q2
    keeps n a (inr h) = rw (le-ltb n (k * count) h)

pub agrees_keeps : (m : Machine) → AgreesKeeps m
agrees_keeps m k run trace other same right = record {
  points = λ i l. let e = same.count in let h : i ≤ trace.count = rw (← e) l in same.points i h ∙ right.points i h;
  notes = λ n l. let e = same.count in let h : n < k * trace.count = rw (← e) l in footprint_then (other.notes n) (trace.notes n) (footprint_at m run n) (same.notes n h) (right.notes n h);
  kept = λ n a. let e = same.count in rw e (same.kept n a ∙ right.kept n a);
}
