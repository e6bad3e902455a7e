-- What an edit of a list in rising order leaves at a place, and at all others.
use Rattle.std.proofs.Common.{◌≡◌, ◌≢◌, ◌∙◌, ℕ, ◌==◌, ◌&&◌, ◌||◌, Bool, true, false, List, [], ◌∷◌, ◌++◌, Option, Some, None, is_some, refl, sym, ap, arith}
use Rattle.std.specs.List.{filter, find, list_any}
use Rattle.std.proofs.lemmas.Bool.{both_ways, false_from_ne_true, or_parts}
use Rattle.std.proofs.lemmas.Bool.Decides.{nat_tests}
use Rattle.sv8_time.specs.Order.{Rising, placed, comes_before, is_at, cleared_at, of_major}
use Rattle.sv8_time.proofs.Common.{filter_none, behind, IsSame, others, key_order, same_place, split, placed_there, placed_elsewhere, dropped_there, dropped_elsewhere}

-- ---- parts of lists

-- a part of a part
pub filter_part : {X : Type 0} (p q : X → Bool) → ((y : X) → p y ≡ true → q y ≡ true) → (xs : List X) → filter p (filter q xs) ≡ filter p xs
filter_part p q f [] = refl
filter_part p q f (x ∷ xs) = go (filter_part p q f xs) (q x) refl
  where
    go : filter p (filter q xs) ≡ filter p xs → (b : Bool) → q x ≡ b → filter p (filter q (x ∷ xs)) ≡ filter p (x ∷ xs)
    go rest true e = rw (e, rest) refl
    go rest false e =
        let out : p x ≡ false = false_from_ne_true (p x) (λ t. both_ways (q x) e (f x t)) in
        rw (e, out) rest

-- there is one, or none
pub none_of : {X : Type 0} (p : X → Bool) (xs : List X) → list_any p xs ≡ false → filter p xs ≡ []
none_of p [] h = refl
none_of p (x ∷ xs) h = go (none_of p xs) (p x) refl h
  where
    go : (list_any p xs ≡ false → filter p xs ≡ []) → (b : Bool) → p x ≡ b → (b || list_any p xs) ≡ false → filter p (x ∷ xs) ≡ []
    go rest true e g = absurd (both_ways true g refl)
    go rest false e g = rw e (rest g)

is_there : {X : Type 0} → List X → Bool
is_there [] = false
is_there (x ∷ xs) = true

any_is : {X : Type 0} (p : X → Bool) (xs : List X) → list_any p xs ≡ is_there (filter p xs)
unfolding is_there
any_is p [] = refl
any_is p (x ∷ xs) = go (any_is p xs) (p x) refl
  where
    go : list_any p xs ≡ is_there (filter p xs) → (b : Bool) → p x ≡ b → list_any p (x ∷ xs) ≡ is_there (filter p (x ∷ xs))
    go rest true e = rw e refl
    go rest false e = rw e rest

-- the same part, so one in both or in neither
pub any_alike : {X : Type 0} (p : X → Bool) (xs ys : List X) → filter p xs ≡ filter p ys → list_any p xs ≡ list_any p ys
any_alike p xs ys e = any_is p xs ∙ ap is_there e ∙ sym (any_is p ys)

pub any_there : {X : Type 0} (p : X → Bool) (xs : List X) (x : X) → filter p xs ≡ x ∷ [] → list_any p xs ≡ true
unfolding is_there
any_there p xs x e = any_is p xs ∙ ap is_there e

pub any_gone : {X : Type 0} (p : X → Bool) (xs : List X) → filter p xs ≡ [] → list_any p xs ≡ false
unfolding is_there
any_gone p xs e = any_is p xs ∙ ap is_there e

-- what is found passes, and where one passes there is one found
pub found_passes : {X : Type 0} (p : X → Bool) (xs : List X) (x : X) → find p xs ≡ Some x → p x ≡ true
found_passes p [] x h = absurd cc
found_passes p (y ∷ ys) x h = go (found_passes p ys x) (p y) refl
  where
    go : (find p ys ≡ Some x → p x ≡ true) → (b : Bool) → p y ≡ b → p x ≡ true
    go rest true e = let same : Some y ≡ Some x = rw e at h in let it : y ≡ x = cc in rw (← it) e
    go rest false e = let later : find p ys ≡ Some x = rw e at h in rest later

pub found_one : {X : Type 0} (p : X → Bool) (xs : List X) → list_any p xs ≡ true → is_some (find p xs) ≡ true
found_one p [] h = absurd cc
found_one p (x ∷ xs) h = go (found_one p xs) (p x) refl
  where
    go : (list_any p xs ≡ true → is_some (find p xs) ≡ true) → (b : Bool) → p x ≡ b → is_some (find p (x ∷ xs)) ≡ true
    go rest true e = rw e refl
    go rest false e = let later : list_any p xs ≡ true = rw e at h in rw e (rest later)

first_is : {X : Type 0} → List X → Option X
first_is [] = None
first_is (x ∷ xs) = Some x

find_is : {X : Type 0} (p : X → Bool) (xs : List X) → find p xs ≡ first_is (filter p xs)
unfolding first_is
find_is p [] = refl
find_is p (x ∷ xs) = go (find_is p xs) (p x) refl
  where
    go : find p xs ≡ first_is (filter p xs) → (b : Bool) → p x ≡ b → find p (x ∷ xs) ≡ first_is (filter p (x ∷ xs))
    go rest true e = rw e refl
    go rest false e = rw e rest

-- the same part, so the same is found
pub find_alike : {X : Type 0} (p : X → Bool) (xs ys : List X) → filter p xs ≡ filter p ys → find p xs ≡ find p ys
find_alike p xs ys e = find_is p xs ∙ ap first_is e ∙ sym (find_is p ys)

-- ---- places in a list in rising order

module _ {X : Type 0} (major minor : X → ℕ) where
  abbrev earlier : X → X → Bool
  earlier = comes_before major minor

  abbrev at : ℕ → ℕ → X → Bool
  at = is_at major minor

  same_as : (k : X) → IsSame earlier (at (major k) (minor k)) k
  same_as k y = same_place (major y) (minor y) (major k) (minor k)

  not_minor : (a b m l n j : ℕ) → (a == m && b == l) ≡ true → j ≢ l → (a == n && b == j) ≡ false
  not_minor a b m l n j e other = grind (arith, nat_tests, other)

  not_major : (a b m l n : ℕ) → (a == m && b == l) ≡ true → n ≢ m → (a == n) ≡ false
  not_major a b m l n e other = grind (arith, nat_tests, other)

  here_is : (m l : ℕ) → (m == m && l == l) ≡ true
  here_is m l = grind (arith, nat_tests)

  -- what stands at other places, of another second number or another first one
  pub placed_minor : (k : X) (xs : List X) (n j : ℕ) → Rising earlier xs → j ≢ minor k → filter (at n j) (placed earlier k xs) ≡ filter (at n j) xs
  placed_minor k xs n j rising other =
      placed_elsewhere earlier (at (major k) (minor k)) (at n j) k (key_order major minor) (same_as k)
      (λ y e. not_minor (major y) (minor y) (major k) (minor k) n j e other) (not_minor (major k) (minor k) (major k) (minor k) n j (here_is (major k) (minor k)) other) xs rising

  pub placed_major : (k : X) (xs : List X) (n : ℕ) → Rising earlier xs → n ≢ major k → of_major major n (placed earlier k xs) ≡ of_major major n xs
  placed_major k xs n rising other =
      placed_elsewhere earlier (at (major k) (minor k)) (λ y. major y == n) k (key_order major minor) (same_as k)
      (λ y e. not_major (major y) (minor y) (major k) (minor k) n e other) (not_major (major k) (minor k) (major k) (minor k) n (here_is (major k) (minor k)) other) xs rising

  pub placed_here : (k : X) (xs : List X) → filter (at (major k) (minor k)) (placed earlier k xs) ≡ k ∷ []
  placed_here k xs = placed_there earlier (at (major k) (minor k)) k (same_as k) (here_is (major k) (minor k)) xs

  pub cleared_minor : (m l : ℕ) (xs : List X) (n j : ℕ) → j ≢ l → filter (at n j) (cleared_at major minor m l xs) ≡ filter (at n j) xs
  cleared_minor m l xs n j other = dropped_elsewhere (at m l) (at n j) (λ y e. not_minor (major y) (minor y) m l n j e other) xs

  pub cleared_major : (m l : ℕ) (xs : List X) (n : ℕ) → n ≢ m → of_major major n (cleared_at major minor m l xs) ≡ of_major major n xs
  cleared_major m l xs n other = dropped_elsewhere (at m l) (λ y. major y == n) (λ y e. not_major (major y) (minor y) m l n e other) xs

  pub cleared_here : (m l : ℕ) (xs : List X) → filter (at m l) (cleared_at major minor m l xs) ≡ []
  cleared_here m l xs = dropped_there (at m l) xs

  -- nothing is cleared where nothing stands
  pub cleared_none : (m l : ℕ) (xs : List X) → list_any (at m l) xs ≡ false → cleared_at major minor m l xs ≡ xs
  cleared_none m l [] h = refl
  cleared_none m l (x ∷ xs) h = let e = or_parts (at m l x) (list_any (at m l) xs) h in rw e.0 (ap (λ ys. x ∷ ys) (cleared_none m l xs e.1))

  -- what is found at a place stands there alone
  found_alone : (k : X) (xs : List X) (x : X) → Rising earlier xs → find (at (major k) (minor k)) xs ≡ Some x → filter (at (major k) (minor k)) xs ≡ x ∷ []
  found_alone k [] x rising e = absurd cc
  found_alone k (y ∷ ys) x rising e = go (found_alone k ys x rising.1) (at (major k) (minor k) y) refl
    where
      go : (find (at (major k) (minor k)) ys ≡ Some x → filter (at (major k) (minor k)) ys ≡ x ∷ []) → (b : Bool) → at (major k) (minor k) y ≡ b
          → filter (at (major k) (minor k)) (y ∷ ys) ≡ x ∷ []
      go rest true f =
          let same : Some y ≡ Some x = rw f at e in
          let it : y ≡ x = cc in
          let not_earlier : earlier y k ≡ false = grind (arith, nat_tests, f) in
          let none : filter (at (major k) (minor k)) ys ≡ [] = filter_none (at (major k) (minor k)) ys
          (others earlier (at (major k) (minor k)) k (same_as k) ys (behind earlier (key_order major minor) k y ys rising.0 not_earlier)) in
          rw (f, none) (ap (λ z. z ∷ []) it)
      go rest false f = let later : find (at (major k) (minor k)) ys ≡ Some x = rw f at e in rw f (rest later)

  -- what stands already is placed
  pub placed_again : (k : X) (xs : List X) → Rising earlier xs → find (at (major k) (minor k)) xs ≡ Some k → placed earlier k xs ≡ xs
  placed_again k xs rising e =
      sym (split earlier (at (major k) (minor k)) k (key_order major minor) (same_as k) xs rising
      ∙ ap (λ l. filter (λ y. earlier y k) xs ++ (l ++ filter (λ y. earlier k y) xs)) (found_alone k xs k rising e))
