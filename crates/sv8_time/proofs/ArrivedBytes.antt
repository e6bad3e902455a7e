-- The bytes that come in at the steps below one, among all bytes.
use Rattle.std.proofs.Common.{arith, ◌≡◌, ◌<◌, ◌≤◌, ℕ, zero, suc, ◌+◌, Bool, true, false, List, [], ◌∷◌, ◌++◌, length, take, refl, sym, ap, ◌∙◌}
use Rattle.std.specs.List.{filter, slice_get}
use Rattle.std.specs.Prelude.{nat_lt}
use Rattle.std.proofs.lemmas.Bool.{le-ltb, ltb-true, ltb-false}
use Rattle.std.proofs.lemmas.List.{length-append}
use Rattle.std.proofs.Math.Seq.{take-append-add}
use Rattle.sv8_time.specs.Schedule.{Input, Schedule, arrived, input_bytes, byte_count, bytes_below, input_before}
use Rattle.sv8_time.specs.Order.{Each, Rising}
use Rattle.sv8_time.proofs.Parts.{filter_none}

-- the bytes of some inputs are as many as these have together
pub length-input_bytes : (inputs : List Input) → length (input_bytes inputs) ≡ byte_count inputs
length-input_bytes [] = refl
length-input_bytes (i ∷ inputs) = length-append i.bytes (input_bytes inputs) ∙ ap (λ n. length i.bytes + n) (length-input_bytes inputs)

-- where the first of rising inputs is not below a step, none is
none_below : (before : ℕ) (i : Input) (inputs : List Input) → before ≤ i.step → Each (λ j. input_before i j ≡ true) inputs → Each (λ j. nat_lt j.step before ≡ false) inputs
none_below before i [] at_least rest = tt
none_below before i (j ∷ inputs) at_least rest =
    let later : i.step < j.step = ltb-true i.step j.step rest.0 in
    (le-ltb j.step before (omega arith), none_below before i inputs at_least rest.1)

-- the bytes of the steps below one are the first of all bytes
pub first_bytes : (before : ℕ) (inputs : List Input) → Rising input_before inputs → take (bytes_below before inputs) (input_bytes inputs) ≡ input_bytes (filter (λ i. nat_lt i.step before) inputs)
first_bytes before [] rising = refl
first_bytes before (i ∷ inputs) rising = first_of (nat_lt i.step before) refl (first_bytes before inputs rising.1) where
  first_of : (b : Bool) → nat_lt i.step before ≡ b → take (bytes_below before inputs) (input_bytes inputs) ≡ input_bytes (filter (λ j. nat_lt j.step before) inputs)
      → take (bytes_below before (i ∷ inputs)) (input_bytes (i ∷ inputs)) ≡ input_bytes (filter (λ j. nat_lt j.step before) (i ∷ inputs))
  first_of true e rest =
      rw e (take-append-add i.bytes (input_bytes inputs) (bytes_below before inputs) ∙ ap (λ bs. i.bytes ++ bs) rest)
  first_of false e rest =
      let none : filter (λ j. nat_lt j.step before) inputs ≡ [] = filter_none (λ j. nat_lt j.step before) inputs (none_below before i inputs (ltb-false i.step before e) rising.0) in
      rw (e, none) refl

-- nothing is among the first of nothing
take_nil : (n : ℕ) → take {A = ℕ} n [] ≡ []
take_nil zero = refl
take_nil (suc n) = refl

-- a byte among the first n of a list
get_of_take : (n k : ℕ) (xs : List ℕ) → k < n → slice_get (take n xs) k ≡ slice_get xs k
get_of_take n k [] below = ap (λ ys. slice_get ys k) (take_nil n)
get_of_take zero k (x ∷ xs) below = absurd (omega arith)
get_of_take (suc n) zero (x ∷ xs) below = refl
get_of_take (suc n) (suc k) (x ∷ xs) below = get_of_take n k xs (omega arith)

module _ (before : ℕ) (schedule : Schedule) where
  pub length-arrived : length (arrived before schedule) ≡ bytes_below before schedule.inputs
  length-arrived = length-input_bytes (filter (λ i. nat_lt i.step before) schedule.inputs)

  pub arrived_byte : (k : ℕ) → Rising input_before schedule.inputs → k < bytes_below before schedule.inputs → slice_get (arrived before schedule) k ≡ slice_get (input_bytes schedule.inputs) k
  arrived_byte k rising below =
      ap (λ bs. slice_get bs k) (sym (first_bytes before schedule.inputs rising)) ∙ get_of_take (bytes_below before schedule.inputs) k (input_bytes schedule.inputs) below
