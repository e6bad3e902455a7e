-- Lists in rising order, with one element at each place.
use Rattle.std.specs.Prelude.{◌≡◌, ℕ, ◌+◌, ◌<◌, ◌≤◌, Bool, true, false, not, nat_lt, ◌==◌, ◌&&◌, ◌||◌, List, [], ◌∷◌, ◌++◌, length, filter, slice_get, slice_set, Option, Some, None}
use Rattle.std.specs.Option.{option_to_list}
use Rattle.std.specs.List.{insert, remove, list_any}

-- P holds of every element
abbrev pub Each : {X : Type 0} → (X → Type 0) → List X → Type 0
Each P [] = Unit {0}
Each P (x ∷ xs) = P x × Each P xs

-- every element comes before all behind it
abbrev pub Rising : {X : Type 0} → (X → X → Bool) → List X → Type 0
Rising before [] = Unit {0}
Rising before (x ∷ xs) = Each (λ y. before x y ≡ true) xs × Rising before xs

-- the list with x at its place: what comes before x, then x, then what comes after it
abbrev pub placed : {X : Type 0} → (X → X → Bool) → X → List X → List X
placed before x xs = filter (λ y. before y x) xs ++ x ∷ filter (λ y. before x y) xs

-- two numbers come before two others: a lower first one, or the same first one and a lower second one
abbrev pub place_before : ℕ → ℕ → ℕ → ℕ → Bool
place_before major minor other_major other_minor = nat_lt major other_major || (major == other_major && nat_lt minor other_minor)

-- the same of two elements, of which both numbers are known
abbrev pub comes_before : {X : Type 0} → (X → ℕ) → (X → ℕ) → X → X → Bool
comes_before major minor x y = place_before (major x) (minor x) (major y) (minor y)

-- an element is at a place
abbrev pub is_at : {X : Type 0} → (X → ℕ) → (X → ℕ) → ℕ → ℕ → X → Bool
is_at major minor at_major at_minor x = major x == at_major && minor x == at_minor

-- the elements without that of a place
abbrev pub cleared_at : {X : Type 0} → (X → ℕ) → (X → ℕ) → ℕ → ℕ → List X → List X
cleared_at major minor at_major at_minor xs = filter (λ x. not (is_at major minor at_major at_minor x)) xs

-- the elements of one first number
abbrev pub of_major : {X : Type 0} → (X → ℕ) → ℕ → List X → List X
of_major major n xs = filter (λ x. major x == n) xs

-- the elements of one first number whose second number is above another
abbrev pub of_major_behind : {X : Type 0} → (X → ℕ) → (X → ℕ) → ℕ → ℕ → List X → List X
of_major_behind major minor n after xs = filter (λ x. major x == n && nat_lt after (minor x)) xs

-- the elements whose first number is above another
abbrev pub behind_major : {X : Type 0} → (X → ℕ) → ℕ → List X → List X
behind_major major after xs = filter (λ x. nat_lt after (major x)) xs

-- the element at index i stands at x's place
pub record Stands {X : Type 0} (before : X → X → Bool) (same : X → Bool) (x : X) (xs : List X) (i : ℕ) : Type 0 where
  pub within : i < length xs
  pub present : list_any same xs ≡ true
  pub replaced : placed before x xs ≡ slice_set xs i x
  pub rising : Rising before (slice_set xs i x)
  pub count : length (placed before x xs) ≡ length xs
  pub removed : filter (λ y. not (same y)) xs ≡ remove xs i
  pub rising_rest : Rising before (remove xs i)
  pub alone : filter same xs ≡ option_to_list (slice_get xs i)

-- no element stands at x's place, which is in front of index i
pub record Misses {X : Type 0} (before : X → X → Bool) (same : X → Bool) (x : X) (xs : List X) (i : ℕ) : Type 0 where
  pub within : i ≤ length xs
  pub absent : list_any same xs ≡ false
  pub none : filter same xs ≡ []
  pub inserted : placed before x xs ≡ insert xs i x
  pub rising : Rising before (insert xs i x)
  pub count : length (placed before x xs) ≡ length xs + 1

-- there is an element at index i, and it passes
abbrev pub passes : {X : Type 0} → (X → Bool) → Option X → Bool
passes p None = false
passes p (Some x) = p x

abbrev pub passes_at : {X : Type 0} → (X → Bool) → List X → ℕ → Bool
passes_at p xs i = passes p (slice_get xs i)
