-- Falling searches: each interval that is looked at leaves the rest of what is to be told.
use Rattle.std.proofs.Common.{◌≡◌, ◌∙◌, ℕ, zero, suc, ◌+◌, ◌-◌, ◌*◌, ◌/◌, ◌<◌, ◌≤◌, ◌⊎◌, inl, inr, Bool, true, false, cond, nat_lt, List, [], ◌∷◌, ◌++◌, length, take, map, reverse, refl, sym, ap, append_assoc, append-nil, length-append, arith}
use Rattle.std.proofs.lemmas.List.{reverse-append, map-append}
use Rattle.std.proofs.lemmas.Bool.{ltb-true, ltb-false}
use Rattle.std.proofs.Math.Nat.{mul-div-le}
use Rattle.sv8_search.proofs.Sought.{in_interval}
use Rattle.sv8_search.specs.Search.{rising, looked_to, falling, sought_to}

-- a step, if it is wanted
abbrev single : Bool → ℕ → List ℕ
single true n = n ∷ []
single false n = []

-- a step of an interval
same_interval : (k low x : ℕ) → 0 < k → low ≤ x → x < k * (low / k) + k → x / k ≡ low / k
same_interval k low x pos up within =
    let under = mul-div-le low k in
    in_interval k (low / k) x pos (omega (arith, under, up)) within

module _ (wanted : ℕ → Bool) where
  -- however many more may follow
  enough : (n b m : ℕ) → b ≤ m → rising wanted n b m ≡ rising wanted n b b
  enough n zero m few = refl
  enough n (suc b) zero few = absurd (omega arith)
  enough n (suc b) (suc m) few =
      let less = enough (n + 1) b m (omega arith) in
      let more = enough (n + 1) b (suc m) (omega arith) ∙ sym (enough (n + 1) b (suc b) (omega arith)) in
      elim (wanted n) as
      (λ w. cond w (n ∷ rising wanted (n + 1) b m) (rising wanted (n + 1) b (suc m)) ≡ cond w (n ∷ rising wanted (n + 1) b b) (rising wanted (n + 1) b (suc b)))
      [ true ↦ ap (λ s. n ∷ s) less | false ↦ more ]

  -- the first of them, and the last
  first : (n b : ℕ) → rising wanted n (suc b) (suc b) ≡ single (wanted n) n ++ rising wanted (n + 1) b b
  first n b = go (wanted n) where
    go : (w : Bool) → cond w (n ∷ rising wanted (n + 1) b b) (rising wanted (n + 1) b (suc b)) ≡ single w n ++ rising wanted (n + 1) b b
    go true = refl
    go false = enough (n + 1) b (suc b) (omega arith)

  last : (n b : ℕ) → rising wanted n (suc b) (suc b) ≡ rising wanted n b b ++ single (wanted (n + b)) (n + b)
  last n zero =
      let here : n + 0 ≡ n = omega arith in
      first n zero ∙ append-nil (single (wanted n) n) ∙ ap (λ s. single (wanted s) s) (sym here)
  last n (suc b) =
      let here : n + 1 + b ≡ n + suc b = omega arith in
      first n (suc b) ∙ ap (λ s. single (wanted n) n ++ s) (last (n + 1) b)
      ∙ sym (append_assoc (single (wanted n) n) (rising wanted (n + 1) b b) (single (wanted (n + 1 + b)) (n + 1 + b)))
      ∙ ap (λ s. s ++ single (wanted (n + 1 + b)) (n + 1 + b)) (sym (first n b))
      ∙ ap (λ s. rising wanted n (suc b) (suc b) ++ single (wanted s) s) here

  last_at : (n a b : ℕ) → rising wanted (n + a) (suc b) (suc b) ≡ rising wanted (n + a) b b ++ single (wanted (n + (a + b))) (n + (a + b))
  last_at n a b =
      let at : n + a + b ≡ n + (a + b) = omega arith in
      last (n + a) b ∙ ap (λ s. rising wanted (n + a) b b ++ single (wanted s) s) at

  no_more_fall : (n a : ℕ) → falling wanted n a 0 ≡ []
  no_more_fall n zero = refl
  no_more_fall n (suc a) = refl

  -- the last of an interval first
  fall_one : (w : Bool) (xs all rest more : List ℕ) (n a s m : ℕ) → all ≡ xs ++ single w s → rest ≡ take m (reverse xs) ++ falling wanted n a (m - length xs)
      → more ≡ take (suc m) (reverse xs) ++ falling wanted n a (suc m - length xs)
      → cond w (s ∷ rest) more ≡ take (suc m) (reverse all) ++ falling wanted n a (suc m - length all)
  fall_one true xs all rest more n a s m e f g =
      let turned : reverse all ≡ s ∷ reverse xs = ap reverse e ∙ reverse-append xs (s ∷ []) in
      let longer : length all ≡ length xs + 1 = ap length e ∙ length-append xs (s ∷ []) in
      let left : suc m - length all ≡ m - length xs = omega (arith, longer) in
      rw (turned, left) (ap (λ t. s ∷ t) f)
  fall_one false xs all rest more n a s m e f g = rw (e, append-nil) g

  -- the steps of an interval from its last one down, and then those below it
  falling_split : (n a b most : ℕ) → falling wanted n (a + b) most
      ≡ take most (reverse (rising wanted (n + a) b b)) ++ falling wanted n a (most - length (rising wanted (n + a) b b))
  falling_split n a zero zero =
      let none : a + 0 ≡ a = omega arith in
      ap (λ x. falling wanted n x 0) none
  falling_split n a zero (suc m) =
      let none : a + 0 ≡ a = omega arith in
      let same : suc m - 0 ≡ suc m = omega arith in
      ap (λ x. falling wanted n x (suc m)) none ∙ ap (falling wanted n a) (sym same)
  falling_split n a (suc b) zero =
      let none : 0 - length (rising wanted (n + a) (suc b) (suc b)) ≡ 0 = omega arith in
      no_more_fall n (a + suc b) ∙ sym (no_more_fall n a) ∙ ap (falling wanted n a) (sym none)
  falling_split n a (suc b) (suc m) =
      let next : a + suc b ≡ suc (a + b) = omega arith in
      ap (λ x. falling wanted n x (suc m)) next
      ∙ fall_one (wanted (n + (a + b))) (rising wanted (n + a) b b) (rising wanted (n + a) (suc b) (suc b)) (falling wanted n (a + b) m) (falling wanted n (a + b) (suc m)) n a (n + (a + b)) m
      (last_at n a b) (falling_split n a b m) (falling_split n a b (suc m))

  -- ---- how far down

  sought_none : (n a : ℕ) → sought_to wanted n a 0 ≡ n + a
  sought_none n zero = omega arith
  sought_none n (suc a) = refl

  sought_below : (n a m : ℕ) → sought_to wanted n a m ≤ n + a
  sought_below n zero m = omega arith
  sought_below n (suc a) zero = omega arith
  sought_below n (suc a) (suc m) =
      let less = sought_below n a m in
      let more = sought_below n a (suc m) in
      elim (wanted (n + a)) as (λ w. cond w (sought_to wanted n a m) (sought_to wanted n a (suc m)) ≤ n + suc a) [ true ↦ omega (arith, less) | false ↦ omega (arith, more) ]

  sought_under : (n a m : ℕ) → 0 < m → 0 < a → sought_to wanted n a m < n + a
  sought_under n zero m some up = absurd (omega (arith, up))
  sought_under n (suc a) zero some up = absurd (omega (arith, some))
  sought_under n (suc a) (suc m) some up =
      let less = sought_below n a m in
      let more = sought_below n a (suc m) in
      elim (wanted (n + a)) as (λ w. cond w (sought_to wanted n a m) (sought_to wanted n a (suc m)) < n + suc a) [ true ↦ omega (arith, less) | false ↦ omega (arith, more) ]

  -- how many are wanted among one more
  one_longer : (w : Bool) (xs all : List ℕ) (s : ℕ) → all ≡ xs ++ single w s → length all ≡ length xs + length (single w s)
  one_longer w xs all s e = ap length e ∙ length-append xs (single w s)

  within_one : (w : Bool) (low all xs m s less more : ℕ) → all ≡ xs + length (single w s) → suc m ≤ all → (m ≤ xs → low ≤ less) → (suc m ≤ xs → low ≤ more)
      → low ≤ cond w less more
  within_one true low all xs m s less more e few f g = f (omega (arith, e, few))
  within_one false low all xs m s less more e few f g = g (omega (arith, e, few))

  -- it lies in an interval that has enough of them, and else below it
  sought_within : (n a b m : ℕ) → m ≤ length (rising wanted (n + a) b b) → n + a ≤ sought_to wanted n (a + b) m
  sought_within n a zero m few =
      let none : m ≡ 0 = omega (arith, few) in
      let at = sought_none n (a + 0) in
      rw none (omega (arith, at))
  sought_within n a (suc b) zero few = let at = sought_none n (a + suc b) in omega (arith, at)
  sought_within n a (suc b) (suc m) few =
      let next : a + suc b ≡ suc (a + b) = omega arith in
      let longer = one_longer (wanted (n + (a + b))) (rising wanted (n + a) b b) (rising wanted (n + a) (suc b) (suc b)) (n + (a + b)) (last_at n a b) in
      rw next
      (within_one (wanted (n + (a + b))) (n + a) (length (rising wanted (n + a) (suc b) (suc b))) (length (rising wanted (n + a) b b)) m (n + (a + b)) (sought_to wanted n (a + b) m)
      (sought_to wanted n (a + b) (suc m)) longer few (sought_within n a b m) (sought_within n a b (suc m)))

  more_one : (w : Bool) (n a all xs m s less more : ℕ) → all ≡ xs + length (single w s) → all < suc m → (xs < m → less ≡ sought_to wanted n a (m - xs))
      → (xs < suc m → more ≡ sought_to wanted n a (suc m - xs)) → cond w less more ≡ sought_to wanted n a (suc m - all)
  more_one true n a all xs m s less more e few f g =
      let left : m - xs ≡ suc m - all = omega (arith, e) in
      f (omega (arith, e, few)) ∙ ap (sought_to wanted n a) left
  more_one false n a all xs m s less more e few f g =
      let left : suc m - xs ≡ suc m - all = omega (arith, e) in
      g (omega (arith, e, few)) ∙ ap (sought_to wanted n a) left

  sought_more : (n a b m : ℕ) → length (rising wanted (n + a) b b) < m → sought_to wanted n (a + b) m ≡ sought_to wanted n a (m - length (rising wanted (n + a) b b))
  sought_more n a zero m few =
      let none : a + 0 ≡ a = omega arith in
      let all : m ≡ m - 0 = omega arith in
      ap (λ x. sought_to wanted n x m) none ∙ ap (sought_to wanted n a) all
  sought_more n a (suc b) zero few = absurd (omega (arith, few))
  sought_more n a (suc b) (suc m) few =
      let next : a + suc b ≡ suc (a + b) = omega arith in
      let longer = one_longer (wanted (n + (a + b))) (rising wanted (n + a) b b) (rising wanted (n + a) (suc b) (suc b)) (n + (a + b)) (last_at n a b) in
      ap (λ x. sought_to wanted n x (suc m)) next
      ∙ more_one (wanted (n + (a + b))) n a (length (rising wanted (n + a) (suc b) (suc b))) (length (rising wanted (n + a) b b)) m (n + (a + b)) (sought_to wanted n (a + b) m)
      (sought_to wanted n (a + b) (suc m)) longer few (sought_more n a b m) (sought_more n a b (suc m))

  -- in any case it lies in the interval in which the search goes on
  sought_interval : (k n a b m : ℕ) → 0 < k → 0 < m → 0 < b → n + (a + b) ≤ k * ((n + a) / k) + k
      → sought_to wanted n a (m - length (rising wanted (n + a) b b)) / k ≡ sought_to wanted n (a + b) m / k
  sought_interval k n a b m pos some up within = go (nat_lt (length (rising wanted (n + a) b b)) m) refl where
    go : (few : Bool) → nat_lt (length (rising wanted (n + a) b b)) m ≡ few
        → sought_to wanted n a (m - length (rising wanted (n + a) b b)) / k ≡ sought_to wanted n (a + b) m / k
    go true t = ap (λ x. x / k) (sym (sought_more n a b m (ltb-true (length (rising wanted (n + a) b b)) m t)))
    go false t =
        let enough = ltb-false (length (rising wanted (n + a) b b)) m t in
        let none : m - length (rising wanted (n + a) b b) ≡ 0 = omega (arith, enough) in
        let under = sought_under n (a + b) m some (omega (arith, up)) in
        ap (λ x. sought_to wanted n a x / k) none ∙ ap (λ x. x / k) (sought_none n a)
        ∙ sym (same_interval k (n + a) (sought_to wanted n (a + b) m) pos (sought_within n a b m enough) (omega (arith, under, within)))

  -- a search of all steps of an interval looks at each
  pub looked_all : (n b m : ℕ) → b ≤ m → looked_to wanted n b m ≡ n + b
  looked_all n zero m few = omega arith
  looked_all n (suc b) zero few = absurd (omega (arith, few))
  looked_all n (suc b) (suc m) few =
      let at : n + 1 + b ≡ n + suc b = omega arith in
      let less = looked_all (n + 1) b m (omega (arith, few)) ∙ at in
      let more = looked_all (n + 1) b (suc m) (omega (arith, few)) ∙ at in
      elim (wanted n) as (λ w. cond w (looked_to wanted (n + 1) b m) (looked_to wanted (n + 1) b (suc m)) ≡ n + suc b) [ true ↦ less | false ↦ more ]

  -- where it ends
  module _ (to end left : ℕ) (low : to ≤ end) (done : (end ≤ to) ⊎ (left ≡ 0)) where
    none_left : (d : (end ≤ to) ⊎ (left ≡ 0)) → (end - to ≡ 0) ⊎ (left ≡ 0)
    none_left (inl past) = inl (omega (arith, past))
    none_left (inr none) = inr none

    fall_end : falling wanted to (end - to) left ≡ []
    fall_end = go (none_left done) where
      go : (end - to ≡ 0) ⊎ (left ≡ 0) → falling wanted to (end - to) left ≡ []
      go (inl none) = ap (λ b. falling wanted to b left) none
      go (inr none) = ap (falling wanted to (end - to)) none ∙ no_more_fall to (end - to)

    sought_end : sought_to wanted to (end - to) left ≡ end
    sought_end = go (none_left done) where
      go : (end - to ≡ 0) ⊎ (left ≡ 0) → sought_to wanted to (end - to) left ≡ end
      go (inl none) =
          let here : to ≡ end = omega (arith, low, none) in
          ap (λ b. sought_to wanted to b left) none ∙ here
      go (inr none) =
          let here : to + (end - to) ≡ end = omega (arith, low) in
          ap (sought_to wanted to (end - to)) none ∙ sought_none to (end - to) ∙ here

    pub all_fallen : {A : Type 0} (f : ℕ → A) (now all : List A) → now ++ map f (falling wanted to (end - to) left) ≡ all → now ≡ all
    all_fallen f now all e = sym (append-nil now) ∙ ap (λ xs. now ++ map f xs) (sym fall_end) ∙ e

    pub lowest_sought : (k lowest : ℕ) → sought_to wanted to (end - to) left / k ≡ lowest / k → end / k ≡ lowest / k
    lowest_sought k lowest e = ap (λ x. x / k) (sym sought_end) ∙ e

  -- ---- the next interval of a search

  module _ (to start end left next : ℕ) (low : to ≤ start) (below : start < end) (rest : next ≡ left - length (rising wanted start (end - start) (end - start))) where
    begin : to + (start - to) ≡ start
    begin = omega (arith, low)

    whole : (start - to) + (end - start) ≡ end - to
    whole = omega (arith, low, below)

    rest_from : left - length (rising wanted (to + (start - to)) (end - start) (end - start)) ≡ next
    rest_from = ap (λ n. left - length (rising wanted n (end - start) (end - start))) begin ∙ sym rest

    pub falling_next : {A : Type 0} (f : ℕ → A) (now new all : List A) → new ≡ now ++ map f (take left (reverse (rising wanted start (end - start) (end - start))))
        → now ++ map f (falling wanted to (end - to) left) ≡ all → new ++ map f (falling wanted to (start - to) next) ≡ all
    falling_next f now new all e g =
        let these = take left (reverse (rising wanted start (end - start) (end - start))) in
        let split : falling wanted to (end - to) left ≡ these ++ falling wanted to (start - to) next =
        ap (λ b. falling wanted to b left) (sym whole) ∙ falling_split to (start - to) (end - start) left
        ∙ ap (λ n. take left (reverse (rising wanted n (end - start) (end - start))) ++ falling wanted to (start - to) (left - length (rising wanted (to + (start - to)) (end - start) (end - start)))) begin
        ∙ ap (λ m. these ++ falling wanted to (start - to) m) rest_from in
        ap (λ xs. xs ++ map f (falling wanted to (start - to) next)) e ∙ append_assoc now (map f these) (map f (falling wanted to (start - to) next))
        ∙ ap (λ xs. now ++ xs) (sym (map-append f these (falling wanted to (start - to) next))) ∙ ap (λ xs. now ++ map f xs) (sym split) ∙ g

    pub sought_next : (k : ℕ) → 0 < k → 0 < left → end ≤ k * (start / k) + k → sought_to wanted to (start - to) next / k ≡ sought_to wanted to (end - to) left / k
    sought_next k pos some within =
        let here : to + ((start - to) + (end - start)) ≤ k * ((to + (start - to)) / k) + k =
        rw begin (omega (arith, low, below, within)) in
        ap (λ m. sought_to wanted to (start - to) m / k) (sym rest_from) ∙ sought_interval k to (start - to) (end - start) left pos some (omega (arith, below)) here
        ∙ ap (λ b. sought_to wanted to b left / k) whole
