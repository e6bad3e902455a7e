-- Lists in rising order: searches, and what an edit of one place makes of them.
use Rattle.std.proofs.Common.{◌≡◌, refl, sym, ap, arith, ℕ, zero, suc, ◌<◌, ◌≤◌, Bool, true, false, cond, List, [], ◌∷◌, ◌++◌, length, get_or}
use Rattle.std.specs.List.{filter, prefix_len, list_any}
use Rattle.std.specs.List.Sorted.{IsPartitionedBy, IsPartitionPoint}
use Rattle.std.specs.Cmp.{IsStrictWeakOrder}
use Rattle.std.proofs.lemmas.Bool.{both_ways, true_from_ne_false, false_from_ne_true}
use Rattle.std.proofs.lemmas.List.Sums.{prefix_len_is}
use Rattle.sv8_time.specs.Order.{Each, Rising, placed}

-- no element that passes stands behind one that fails
abbrev pub Parted : {X : Type 0} → (X → Bool) → List X → Type 0
Parted p [] = Unit {0}
Parted p (x ∷ xs) = (p x ≡ false → Each (λ y. p y ≡ false) xs) × Parted p xs

pub each_map : {X : Type 0} (P Q : X → Type 0) → ((x : X) → P x → Q x) → (xs : List X) → Each P xs → Each Q xs
each_map P Q f [] h = tt
each_map P Q f (x ∷ xs) h = (f x h.0, each_map P Q f xs h.1)

pub each_at : {X : Type 0} (P : X → Type 0) (xs : List X) (i : ℕ) (d : X) → i < length xs → Each P xs → P (get_or xs i d)
each_at P [] i d l h = absurd (omega arith)
each_at P (x ∷ xs) zero d l h = h.0
each_at P (x ∷ xs) (suc i) d l h = each_at P xs i d (omega arith) h.1

pub each_append : {X : Type 0} (P : X → Type 0) (xs ys : List X) → Each P xs → Each P ys → Each P (xs ++ ys)
each_append P [] ys h k = k
each_append P (x ∷ xs) ys h k = (h.0, each_append P xs ys h.1 k)

pub each_filter : {X : Type 0} (P : X → Type 0) (p : X → Bool) (xs : List X) → Each P xs → Each P (filter p xs)
each_filter P p [] h = tt
each_filter P p (x ∷ xs) h = elim (p x) as (λ b. Each P (cond b (x ∷ filter p xs) (filter p xs))) [
  | true ↦ (h.0, each_filter P p xs h.1)
  | false ↦ each_filter P p xs h.1
]

pub each_passes : {X : Type 0} (p : X → Bool) (xs : List X) → Each (λ x. p x ≡ true) (filter p xs)
each_passes p [] = tt
each_passes p (x ∷ xs) = elim (p x) as (λ b. p x ≡ b → Each (λ y. p y ≡ true) (cond b (x ∷ filter p xs) (filter p xs))) [
  | true ↦ λ e. (e, each_passes p xs)
  | false ↦ λ e. each_passes p xs
] refl

pub filter_all : {X : Type 0} (p : X → Bool) (xs : List X) → Each (λ x. p x ≡ true) xs → filter p xs ≡ xs
filter_all p [] h = refl
filter_all p (x ∷ xs) h = rw h.0 (ap (λ l. x ∷ l) (filter_all p xs h.1))

pub filter_none : {X : Type 0} (p : X → Bool) (xs : List X) → Each (λ x. p x ≡ false) xs → filter p xs ≡ []
filter_none p [] h = refl
filter_none p (x ∷ xs) h = rw h.0 (filter_none p xs h.1)

pub any_none : {X : Type 0} (p : X → Bool) (xs : List X) → Each (λ x. p x ≡ false) xs → list_any p xs ≡ false
any_none p [] h = refl
any_none p (x ∷ xs) h = rw h.0 (any_none p xs h.1)

pub prefix_none : {X : Type 0} (p : X → Bool) (xs : List X) → Each (λ x. p x ≡ false) xs → prefix_len p xs ≡ 0
prefix_none p [] h = refl
prefix_none p (x ∷ xs) h = rw h.0 refl

-- a part of the list by a test that passes in front
pub parted_places : {X : Type 0} (p : X → Bool) (xs : List X) → Parted p xs → IsPartitionedBy p xs
parted_places p [] h i j d l k e = absurd (omega arith)
parted_places p (x ∷ xs) h zero zero d l k e = e
parted_places p (x ∷ xs) h zero (suc j) d l k e =
    true_from_ne_false (p x) (λ f. both_ways (p (get_or xs j d)) (each_at (λ y. p y ≡ false) xs j d (omega arith) (h.0 f)) e)
parted_places p (x ∷ xs) h (suc i) zero d l k e = absurd (omega arith)
parted_places p (x ∷ xs) h (suc i) (suc j) d l k e = parted_places p xs h.1 i j d (omega arith) (omega arith) e

prefix_from_place : {X : Type 0} (p : X → Bool) (xs : List X) (r : ℕ) (d : X) → r ≤ length xs → IsPartitionPoint (λ y. p y ≡ true) (λ y. p y ≡ false) xs r → r ≡ prefix_len p xs
prefix_from_place p xs r d bound point = sym (prefix_len_is p xs r d bound (λ k l. point.0 k d (omega arith) l) (λ l. point.1 r d (omega arith) l))

-- the point where a list is parted is the length of its part in front
pub prefix_from_point : {X : Type 0} (p : X → Bool) (xs : List X) (r : ℕ) → r ≤ length xs → IsPartitionPoint (λ y. p y ≡ true) (λ y. p y ≡ false) xs r → r ≡ prefix_len p xs
prefix_from_point p [] r bound point = omega arith
prefix_from_point p (x ∷ xs) r bound point = prefix_from_place p (x ∷ xs) r x bound point

pub parted_rising : {X : Type 0} (before : X → X → Bool) (p : X → Bool) → ((x y : X) → before x y ≡ true → p x ≡ false → p y ≡ false) → (xs : List X) → Rising before xs → Parted p xs
parted_rising before p f [] h = tt
parted_rising before p f (x ∷ xs) h = (λ e. each_map (λ y. before x y ≡ true) (λ y. p y ≡ false) (λ y b. f x y b e) xs h.0, parted_rising before p f xs h.1)

pub joined : {X : Type 0} (before : X → X → Bool) → IsStrictWeakOrder before → (a b c : X) → before a b ≡ true → before b c ≡ true → before a c ≡ true
joined before o a b c e f = true_from_ne_false (before a c) (λ g. both_ways (before a b) (o.chain a c b g (o.one_way b c f)) e)

-- what comes before k stands in front
pub parted_before : {X : Type 0} (before : X → X → Bool) → IsStrictWeakOrder before → (k : X) (xs : List X) → Rising before xs → Parted (λ y. before y k) xs
parted_before before o k xs h = parted_rising before (λ y. before y k) (λ x y b e. false_from_ne_true (before y k) (λ t. both_ways (before x k) e (joined before o x y k b t))) xs h

pub between : {X : Type 0} (before : X → X → Bool) → IsStrictWeakOrder before → (a b k : X) → before a b ≡ true → before a k ≡ false → before k b ≡ true
between before o a b k e f = true_from_ne_false (before k b) (λ g. both_ways (before a b) (o.chain a k b f g) e)

-- behind an element that is not before k, all come after k
pub behind : {X : Type 0} (before : X → X → Bool) → IsStrictWeakOrder before → (k x : X) (xs : List X) → Each (λ y. before x y ≡ true) xs → before x k ≡ false → Each (λ y. before k y ≡ true) xs
behind before o k x xs h e = each_map (λ y. before x y ≡ true) (λ y. before k y ≡ true) (λ y b. between before o x y k b e) xs h

pub not_before : {X : Type 0} (before : X → X → Bool) → IsStrictWeakOrder before → (k : X) (xs : List X) → Each (λ y. before k y ≡ true) xs → Each (λ y. before y k ≡ false) xs
not_before before o k xs h = each_map (λ y. before k y ≡ true) (λ y. before y k ≡ false) (λ y b. o.one_way k y b) xs h

-- a list in rising order keeps its order when an element is placed in it
pub rising_filter : {X : Type 0} (before : X → X → Bool) (p : X → Bool) (xs : List X) → Rising before xs → Rising before (filter p xs)
rising_filter before p [] h = tt
rising_filter before p (x ∷ xs) h = elim (p x) as (λ b. Rising before (cond b (x ∷ filter p xs) (filter p xs))) [
  | true ↦ (each_filter (λ y. before x y ≡ true) p xs h.0, rising_filter before p xs h.1)
  | false ↦ rising_filter before p xs h.1
]

pub rising_append : {X : Type 0} (before : X → X → Bool) → IsStrictWeakOrder before → (k : X) (xs ys : List X) → Rising before xs → Rising before ys → Each (λ y. before y k ≡ true) xs → Each (λ y. before k y ≡ true) ys → Rising before (xs ++ k ∷ ys)
rising_append before o k [] ys h i e f = (f, i)
rising_append before o k (x ∷ xs) ys h i e f =
    (each_append (λ y. before x y ≡ true) xs (k ∷ ys) h.0 (e.0, each_map (λ y. before k y ≡ true) (λ y. before x y ≡ true) (λ y b. joined before o x k y e.0 b) ys f), rising_append before o k xs ys h.1 i e.1 f)

pub rising_placed : {X : Type 0} (before : X → X → Bool) → IsStrictWeakOrder before → (k : X) (xs : List X) → Rising before xs → Rising before (placed before k xs)
rising_placed before o k xs h = rising_append before o k (filter (λ y. before y k) xs) (filter (λ y. before k y) xs)
    (rising_filter before (λ y. before y k) xs h) (rising_filter before (λ y. before k y) xs h) (each_passes (λ y. before y k) xs) (each_passes (λ y. before k y) xs)

pub each_placed : {X : Type 0} (P : X → Type 0) (before : X → X → Bool) (k : X) (xs : List X) → P k → Each P xs → Each P (placed before k xs)
each_placed P before k xs e h = each_append P (filter (λ y. before y k) xs) (k ∷ filter (λ y. before k y) xs) (each_filter P (λ y. before y k) xs h) (e, each_filter P (λ y. before k y) xs h)
