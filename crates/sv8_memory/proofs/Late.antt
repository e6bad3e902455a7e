-- Behind the last step nothing comes in.
use Rattle.std.proofs.Common.{◌≡◌, ◌∙◌, ℕ, ◌+◌, ◌<◌, ◌≤◌, Bool, true, false, cond, nat_lt, List, [], ◌∷◌, filter, refl, sym, ap, arith}
use Rattle.std.proofs.lemmas.Bool.Decides.{nat_tests}
use Rattle.sv8_time.specs.Order.{Each}
use Rattle.sv8_time.specs.Schedule.{Schedule, arrived, Input, IsInputPlace, IsTimeline, bytes_below, byte_count, input_bytes}

all_below : (n : ℕ) (inputs : List Input) → 1000000 < n → Each IsInputPlace inputs → filter (λ i. nat_lt i.step n) inputs ≡ inputs
all_below n [] late h = refl
all_below n (i ∷ inputs) late h =
    let place = h.0.0 in
    let low : nat_lt i.step n ≡ true = grind (arith, nat_tests) in
    rw low (ap (λ xs. i ∷ xs) (all_below n inputs late h.1))

pub late_arrived : (n : ℕ) (s : Schedule) → 1000000 < n → IsTimeline s → arrived n s ≡ arrived (n + 1) s
late_arrived n s late t = ap input_bytes (all_below n s.inputs late t.input_places ∙ sym (all_below (n + 1) s.inputs (omega arith) t.input_places))

pub late_below : (n : ℕ) (s : Schedule) → 1000000 < n → IsTimeline s → bytes_below n s.inputs ≡ bytes_below (n + 1) s.inputs
late_below n s late t = ap byte_count (all_below n s.inputs late t.input_places ∙ sym (all_below (n + 1) s.inputs (omega arith) t.input_places))

-- what has come in grows with the steps
pub below_grows : (n : ℕ) (inputs : List Input) → bytes_below n inputs ≤ bytes_below (n + 1) inputs
below_grows n [] = omega arith
below_grows n (i ∷ inputs) = go (nat_lt i.step n) (nat_lt i.step (n + 1)) refl refl (below_grows n inputs)
  where
    go : (a b : Bool) → nat_lt i.step n ≡ a → nat_lt i.step (n + 1) ≡ b → bytes_below n inputs ≤ bytes_below (n + 1) inputs
        → byte_count (cond a (i ∷ filter (λ j. nat_lt j.step n) inputs) (filter (λ j. nat_lt j.step n) inputs))
        ≤ byte_count (cond b (i ∷ filter (λ j. nat_lt j.step (n + 1)) inputs) (filter (λ j. nat_lt j.step (n + 1)) inputs))
    go true true e f h = omega (arith, h)
    go true false e f h = absurd (grind (arith, nat_tests))
    go false true e f h = omega (arith, h)
    go false false e f h = h
