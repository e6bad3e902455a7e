-- First steps, in ranges and among lists.
use Rattle.std.proofs.lemmas.List.{take_more}
use Rattle.std.proofs.Common.{take, length, get_or, ◌≡◌, ℕ, ◌+◌, ◌<◌, List, [], ◌∷◌, ◌++◌, Bool, false, ◌||◌, Option, Some, None, sym, ◌∙◌}
use Rattle.std.specs.List.{list_any}
use Rattle.sv8_notes.specs.Steps.{IsFirstBelow}
use Rattle.sv8_notes.proofs.Gaining.{any_one}

pub or_false : (a b : Bool) → a ≡ false → b ≡ false → (a || b) ≡ false
or_false a b p q = rw (p, q)

pub first_like : (f g : ℕ → Bool) (from end : ℕ) (o : Option ℕ) → ((n : ℕ) → f n ≡ g n) → IsFirstBelow f from end o → IsFirstBelow g from end o
first_like f g from end None e h = λ n a b. sym (e n) ∙ h n a b
first_like f g from end (Some s) e h = (h.0, h.1, sym (e s) ∙ h.2, λ n a b. sym (e n) ∙ h.3 n a b)

pub first_more : {X : Type 0} (f : X → ℕ → Bool) (xs : List X) (x : X) (from end : ℕ) (found here best : Option ℕ)
    → ((f g : ℕ → Bool) (from end : ℕ) → IsFirstBelow f from end found → IsFirstBelow g from end here → IsFirstBelow (λ n. f n || g n) from end best)
    → IsFirstBelow (λ n. list_any (λ y. f y n) xs) from end found → IsFirstBelow (f x) from end here
    → IsFirstBelow (λ n. list_any (λ y. f y n) (xs ++ x ∷ [])) from end best
first_more f xs x from end found here best lesser p q =
    first_like (λ n. list_any (λ y. f y n) xs || f x n) (λ n. list_any (λ y. f y n) (xs ++ x ∷ [])) from end best (λ n. sym (any_one (λ y. f y n) xs x)) (lesser (λ n. list_any (λ y. f y n) xs) (f x) from end p q)

-- the same of the first elements of a list
pub first_taken : {X : Type 0} (f : X → ℕ → Bool) (xs : List X) (i : ℕ) (d : X) (from end : ℕ) (found here best : Option ℕ) → i < length xs
    → ((f g : ℕ → Bool) (from end : ℕ) → IsFirstBelow f from end found → IsFirstBelow g from end here → IsFirstBelow (λ n. f n || g n) from end best)
    → IsFirstBelow (λ n. list_any (λ y. f y n) (take i xs)) from end found → IsFirstBelow (f (get_or xs i d)) from end here
    → IsFirstBelow (λ n. list_any (λ y. f y n) (take (i + 1) xs)) from end best
first_taken f xs i d from end found here best h lesser p q = rw (take_more xs i d h) (first_more f (take i xs) (get_or xs i d) from end found here best lesser p q)
