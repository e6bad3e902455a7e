-- The texts of numbers that follow each other, one after the other.
use Rattle.std.proofs.Common.{◌≡◌, ℕ, zero, suc, ◌+◌, ◌<◌, ◌≤◌, List, ◌∷◌, ◌++◌, take, Option, refl, ap, arith}
use Rattle.std.specs.List.{range_with_len}
use Rattle.std.proofs.lemmas.List.FromFn.{length-range_with_len}
use Rattle.sv8_session.specs.Put.{AppendsPart}
use Rattle.sv8_commands.specs.Put.{Gained}
use Rattle.sv8_commands.specs.Text.{numbered_text}
use Rattle.sv8_commands.proofs.NumberedLemmas.{numbered-cut, numbered-next}

take_range : (a n k : ℕ) → k ≤ n → take k (range_with_len a n) ≡ range_with_len a k
take_range a n zero h = refl
take_range a zero (suc k) h = absurd (omega arith)
take_range a (suc n) (suc k) h = ap (λ l. a ∷ l) (take_range (a + 1) n k (omega arith))

module _ (f : ℕ → List ℕ) (from : ℕ) where
  -- of so many numbers
  abbrev pub counted_text : ℕ → List ℕ
  counted_text count = numbered_text (λ n x. f n) from (range_with_len from count)

  -- one number's text was put in part
  pub counted-cut : (all count n : ℕ) (a b c : Option (List ℕ)) (w x : List ℕ) → count < all → n ≡ from + count → Gained a b w x (counted_text count)
      → AppendsPart b c (x ++ f n) → AppendsPart a c (w ++ counted_text all)
  counted-cut all count n a b c w x below at g p =
      let before : Gained a b w x (numbered_text (λ n x. f n) from (take count (range_with_len from all))) = rw (take_range from all count (omega arith)) g in
      numbered-cut (λ n x. f n) from (range_with_len from all) count n 0 a b c w x (omega (arith, length-range_with_len from all)) at before p

  -- one number's text was put
  pub counted-next : (count n : ℕ) (a b c : Option (List ℕ)) (w x y : List ℕ) → n ≡ from + count → Gained a b w x (counted_text count)
      → Gained b c x y (f n) → Gained a c w y (counted_text (count + 1))
  counted-next count n a b c w x y at g q =
      let more = range_with_len from (count + 1) in
      let before : Gained a b w x (numbered_text (λ n x. f n) from (take count more)) = rw (take_range from (count + 1) count (omega arith)) g in
      let now = numbered-next (λ n x. f n) from more count n 0 a b c w x y (omega (arith, length-range_with_len from (count + 1))) at before q in
      rw (take_range from (count + 1) (count + 1) (omega arith)) at now
