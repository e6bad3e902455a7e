-- Lists of numbers below 256, and what stays one.
use Rattle.std.proofs.Common.{◌≡◌, ℕ, zero, suc, ◌+◌, Bool, true, false, ◌&&◌, List, [], ◌∷◌, get_or, refl, sym, ap, ◌∙◌, arith}
use Rattle.std.proofs.lemmas.Bool.{lt-ltb, ltb-true, true≢false}
use Rattle.sv8_model.specs.Outside.{with_word, with_byte}
use Rattle.sv8_model.proofs.Common.{IsByte, set_each, word_bytes}
use Rattle.sv8_model.specs.declared.size.Size.{Size}
use Rattle.sv8_model.specs.declared.size.Size.TheVariants.{Byte, Half, Word, Double}
use Rattle.sv8_phys.specs.Bytes.{are_bytes}
use Rattle.sv8_phys.specs.Memory.{with_value}

first_true : (a b : Bool) → (a && b) ≡ true → a ≡ true
first_true true b h = refl
first_true false b h = h

rest_true : (a b : Bool) → (a && b) ≡ true → b ≡ true
rest_true true b h = h
rest_true false b h = absurd (true≢false (sym h))

both_true : (a b : Bool) → a ≡ true → b ≡ true → (a && b) ≡ true
both_true a b h k = rw (h, k) refl

pub each_byte : (xs : List ℕ) → are_bytes xs ≡ true → (i : ℕ) → IsByte (get_or xs i 0)
each_byte [] h i = omega arith
each_byte (x ∷ xs) h zero = ltb-true x 256 (first_true _ _ h)
each_byte (x ∷ xs) h (suc i) = each_byte xs (rest_true _ _ h) i

pub all_bytes_fit : (xs : List ℕ) → ((i : ℕ) → IsByte (get_or xs i 0)) → are_bytes xs ≡ true
all_bytes_fit [] h = refl
all_bytes_fit (x ∷ xs) h = both_true _ _ (lt-ltb x 256 (h 0)) (all_bytes_fit xs (λ i. h (suc i)))

each_written : (size : Size) (a v : ℕ) (xs : List ℕ) → ((i : ℕ) → IsByte (get_or xs i 0)) → (i : ℕ) → IsByte (get_or (with_value size a v xs) i 0)
unfolding with_value with_byte
each_written Byte a v xs h = set_each IsByte xs 0 a _ h (omega arith)
each_written Half a v xs h = set_each IsByte _ 0 (a + 1) _ (set_each IsByte xs 0 a _ h (omega arith)) (omega arith)
each_written Word a v xs h = word_bytes xs _ _ h
each_written Double a v xs h = word_bytes _ _ _ (word_bytes xs _ _ h)

-- a number written in a list of bytes leaves one
pub written_fits : (size : Size) (a v : ℕ) (xs ys : List ℕ) → are_bytes xs ≡ true → ys ≡ with_value size a v xs → are_bytes ys ≡ true
written_fits size a v xs ys h e = ap are_bytes e ∙ all_bytes_fit (with_value size a v xs) (each_written size a v xs (each_byte xs h))

pub word_fits : (k v : ℕ) (xs ys : List ℕ) → are_bytes xs ≡ true → ys ≡ with_word xs k v → are_bytes ys ≡ true
word_fits k v xs ys h e = ap are_bytes e ∙ all_bytes_fit (with_word xs k v) (word_bytes xs k v (each_byte xs h))
