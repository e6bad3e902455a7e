-- A list with no ties has one sorted order, and `in_order` gives it.
use Rattle.std.proofs.Common.{◌≡◌, ℕ, zero, suc, ◌<◌, Bool, true, false, not, cond, List, [], ◌∷◌, ◌++◌, map, filter, get_or, set, swap, length, refl, sym, ap, ap₂, ◌∙◌, subst, arith, add-one, Ordering, Less, Equal, Greater, is_lt, is_gt, is_eq, true≢false, IsPermutation, IsSorted}
use Rattle.std.specs.List.{AllByRecursion}
use Rattle.std.specs.Cmp.{IsTotalOrder}
use Rattle.std.specs.Ordering.{ordering_reverse, on}
use Rattle.std.proofs.lemmas.Cmp.{tied_itself, upto, alike_right, on_total, then_total, nat_cmp_total, nat_list_cmp_total}
use Rattle.std.proofs.lemmas.List.Elements.{recursion_from_All, All-from_recursion}
use Rattle.std.proofs.lemmas.List.Sorted.{length_permutation, All-permutation, IsPermutation-refl, IsPermutation-cons, IsPermutation-trans, IsPermutation-middle, IsPermutation-map, IsPermutation-keeps}
use Rattle.sv8_source.specs.declared.names.DefinedName.{DefinedName}
use Rattle.sv8_source.specs.View.{named_of}
use Rattle.sv8_source.specs.Names.{Named, Pairwise, HasNoTies, compare, with_name_in_order, in_order}

-- ---- what holds of all elements

pub all_weaker : {A : Type 0} (P Q : A → Type 0) → ((x : A) → P x → Q x) → (xs : List A) → AllByRecursion P xs → AllByRecursion Q xs
all_weaker P Q f [] h = tt
all_weaker P Q f (x ∷ xs) h = (f x h.0, all_weaker P Q f xs h.1)

filter_all : {A : Type 0} (p : A → Bool) (xs : List A) → AllByRecursion (λ x. p x ≡ true) xs → filter p xs ≡ xs
filter_all p [] h = refl
filter_all p (x ∷ xs) h = rw (h.0, filter_all p xs h.1)

filter_none : {A : Type 0} (p : A → Bool) (xs : List A) → AllByRecursion (λ x. p x ≡ false) xs → filter p xs ≡ []
filter_none p [] h = refl
filter_none p (x ∷ xs) h = rw (h.0, filter_none p xs h.1)

all-filter : {A : Type 0} (P : A → Type 0) (p : A → Bool) (xs : List A) → AllByRecursion P xs → AllByRecursion P (filter p xs)
all-filter P p [] h = tt
all-filter P p (x ∷ xs) h =
    elim (p x) as (λ b. AllByRecursion P (cond b (x ∷ filter p xs) (filter p xs))) [ true ↦ (h.0, all-filter P p xs h.1) | false ↦ all-filter P p xs h.1 ]

pairs-filter : {A : Type 0} (R : A → A → Type 0) (p : A → Bool) (xs : List A) → Pairwise R xs → Pairwise R (filter p xs)
pairs-filter R p [] h = tt
pairs-filter R p (x ∷ xs) h =
    elim (p x) as (λ b. Pairwise R (cond b (x ∷ filter p xs) (filter p xs))) [ true ↦ (all-filter (R x) p xs h.0, pairs-filter R p xs h.1) | false ↦ pairs-filter R p xs h.1 ]

pub pairs-map : {A B : Type 0} (R : B → B → Type 0) (f : A → B) (xs : List A) → Pairwise (λ a b. R (f a) (f b)) xs → Pairwise R (map f xs)
pairs-map R f [] up = tt
pairs-map {A} R f (x ∷ xs) up = (go xs up.0, pairs-map R f xs up.1)
  where
    go : (ys : List A) → AllByRecursion (λ y. R (f x) (f y)) ys → AllByRecursion (R (f x)) (map f ys)
    go [] h = tt
    go (y ∷ ys) h = (h.0, go ys h.1)

-- ---- a permutation and a filter

-- a relation of lists holds along each permutation if it is reflexive and transitive, and goes under a head and over an exchange of two heads
module _ {X : Type 0} (R : List X → List X → Type 0) (same : (xs : List X) → R xs xs)
    (skip : (x : X) (xs ys : List X) → R xs ys → R (x ∷ xs) (x ∷ ys))
    (turn : (x y : X) (xs : List X) → R (x ∷ y ∷ xs) (y ∷ x ∷ xs))
    (chain : (xs ys zs : List X) → R xs ys → R ys zs → R xs zs) where
  to_head : (l : List X) (j : ℕ) (x d : X) → j < length l → R (x ∷ l) (get_or l j d ∷ set l j x)
  to_head [] j x d h = absurd (omega arith)
  to_head (y ∷ l) zero x d h = turn x y l
  to_head (y ∷ l) (suc j) x d h =
      chain _ _ _ (turn x y l) (chain _ _ _ (skip y _ _ (to_head l j x d (omega arith))) (turn y (get_or l j d) (set l j x)))

  exchanged : (l : List X) (i j : ℕ) (d : X) → i < length l → j < length l → R l (set (set l i (get_or l j d)) j (get_or l i d))
  exchanged [] i j d p q = absurd (omega arith)
  exchanged (x ∷ l) zero zero d p q = same (x ∷ l)
  exchanged (x ∷ l) zero (suc j) d p q = to_head l j x d (omega arith)
  exchanged (x ∷ l) (suc i) zero d p q = to_head l i x d (omega arith)
  exchanged (x ∷ l) (suc i) (suc j) d p q = skip x _ _ (exchanged l i j d (omega arith) (omega arith))

  swapped : (l : List X) (i j : ℕ) → i < length l → j < length l → R l (swap l i j)
  swapped [] i j p q = same []
  swapped (x ∷ l) i j p q = exchanged (x ∷ l) i j x p q

  along_permutation : (xs ys : List X) → IsPermutation xs ys → R xs ys
  along_permutation xs = IsPermutation-keeps xs (R xs) (same xs) (λ l i j p q h. chain xs l _ h (swapped l i j p q))

filter_skip : {A : Type 0} (p : A → Bool) (x : A) (xs ys : List A) → IsPermutation (filter p xs) (filter p ys) → IsPermutation (filter p (x ∷ xs)) (filter p (x ∷ ys))
filter_skip p x xs ys h =
    elim (p x) as (λ b. IsPermutation (cond b (x ∷ filter p xs) (filter p xs)) (cond b (x ∷ filter p ys) (filter p ys))) [ true ↦ IsPermutation-cons x _ _ h | false ↦ h ]

filter_turn : {A : Type 0} (p : A → Bool) (x y : A) (xs : List A) → IsPermutation (filter p (x ∷ y ∷ xs)) (filter p (y ∷ x ∷ xs))
filter_turn {A} p x y xs = go (p x) (p y) (filter p xs)
  where
    go : (a b : Bool) (l : List A) → IsPermutation (cond a (x ∷ cond b (y ∷ l) l) (cond b (y ∷ l) l)) (cond b (y ∷ cond a (x ∷ l) l) (cond a (x ∷ l) l))
    go true true l = IsPermutation-middle (x ∷ []) y l
    go true false l = IsPermutation-refl _
    go false true l = IsPermutation-refl _
    go false false l = IsPermutation-refl _

IsPermutation-filter : {A : Type 0} (p : A → Bool) (xs ys : List A) → IsPermutation xs ys → IsPermutation (filter p xs) (filter p ys)
IsPermutation-filter p = along_permutation (λ xs ys. IsPermutation (filter p xs) (filter p ys)) (λ xs. IsPermutation-refl _) (filter_skip p) (filter_turn p) (λ xs ys zs. IsPermutation-trans _ _ _)

-- ---- a sorted list

module _ {X : Type 0} (cmp : X → X → Ordering) (total : IsTotalOrder cmp) where
  abbrev pub AtMost : X → X → Type 0
  AtMost a b = is_gt (cmp a b) ≡ false

  turned : (o : Ordering) → is_lt o ≡ false → is_gt (ordering_reverse o) ≡ false
  turned Less h = h
  turned Equal h = refl
  turned Greater h = refl

  below_all : (x : X) (ys : List X) → IsSorted cmp (x ∷ ys) → Pairwise AtMost ys → AllByRecursion (AtMost x) ys
  below_all x [] sorted up = tt
  below_all x (y ∷ ys) sorted up =
      let first : AtMost x y = ap is_gt (total.antisymm x y) ∙ turned _ (sorted 0 x (omega arith) (omega arith)) in
      (first, all_weaker _ (AtMost x) (λ z. upto total x y z first) ys up.0)

  pub pairs_from_sorted : (xs : List X) → IsSorted cmp xs → Pairwise AtMost xs
  pairs_from_sorted [] sorted = tt
  pairs_from_sorted (x ∷ xs) sorted =
      let tail : IsSorted cmp xs = λ k d p q. rw add-one (rw add-one at (sorted (suc k) d (omega arith) (omega arith))) in
      let up = pairs_from_sorted xs tail in
      (below_all x xs sorted up, up)

-- ---- names

pub compare_total : IsTotalOrder compare
compare_total = then_total (on_total (λ n. n.value) nat_cmp_total) (on_total (λ n. n.name) nat_list_cmp_total)

abbrev NotAfter : Named → Named → Type 0
NotAfter m n = is_gt (compare m n) ≡ false

abbrev pub Before : Named → Named → Type 0
Before m n = compare m n ≡ Less

abbrev is_behind : Named → Named → Bool
is_behind m n = is_lt (compare m n)

still_behind : (x y z : Named) → is_behind x y ≡ true → NotAfter y z → is_behind x z ≡ true
still_behind x y z h up = go (compare x y) (compare y z) refl refl h up
  where
    go : (a b : Ordering) → compare x y ≡ a → compare y z ≡ b → is_lt a ≡ true → is_gt b ≡ false → is_behind x z ≡ true
    go Less Less p q s t = ap is_lt (compare_total.trans x y z p q)
    go Less Equal p q s t = ap is_lt (sym (alike_right compare_total y z x q) ∙ p)
    go Less Greater p q s t = absurd (true≢false t)
    go Equal b p q s t = absurd (true≢false (sym s))
    go Greater b p q s t = absurd (true≢false (sym s))

-- a sorted list is what is not behind x, and then what is
split : (x : Named) (ys : List Named) → Pairwise NotAfter ys → ys ≡ filter (λ z. not (is_behind x z)) ys ++ filter (is_behind x) ys
split x [] up = refl
split x (y ∷ ys) up = go (is_behind x y) refl (split x ys up.1)
  where
    go : (b : Bool) → is_behind x y ≡ b → ys ≡ filter (λ z. not (is_behind x z)) ys ++ filter (is_behind x) ys
        → y ∷ ys ≡ filter (λ z. not (is_behind x z)) (y ∷ ys) ++ filter (is_behind x) (y ∷ ys)
    go false e more = rw e (ap (λ l. y ∷ l) more)
    go true e more =
        let behind = all_weaker _ (λ z. is_behind x z ≡ true) (λ z. still_behind x y z e) ys up.0 in
        rw (e, filter_none _ ys (all_weaker _ (λ z. not (is_behind x z) ≡ false) (λ z h. ap not h) ys behind), filter_all _ ys behind)

one : (x : Named) (ys : List Named) → IsPermutation (x ∷ []) ys → ys ≡ x ∷ []
one x [] same = absurd (omega (arith, length_permutation _ _ same))
one x (y ∷ []) same = ap (λ z. z ∷ []) (recursion_from_All (λ z. z ≡ x) (y ∷ []) (All-permutation (λ z. z ≡ x) (x ∷ []) (y ∷ []) same (All-from_recursion (λ z. z ≡ x) (x ∷ []) (refl, tt)))).0
one x (y ∷ z ∷ ys) same = absurd (omega (arith, length_permutation _ _ same))

-- of the orders of a list with no ties one is sorted: its head is all that is not behind the head, and the rest follows by induction
same_order : (xs ys : List Named) → Pairwise Before xs → IsPermutation xs ys → Pairwise NotAfter ys → ys ≡ xs
same_order [] [] strict same up = refl
same_order [] (y ∷ ys) strict same up = absurd (omega (arith, length_permutation _ _ same))
same_order (x ∷ xs) ys strict same up =
    let here : is_behind x x ≡ false = ap is_lt (tied_itself compare_total x) in
    let behind = all_weaker _ (λ z. is_behind x z ≡ true) (λ z h. ap is_lt h) xs strict.0 in
    let first : filter (λ z. not (is_behind x z)) (x ∷ xs) ≡ x ∷ [] =
    rw (here, filter_none _ xs (all_weaker _ (λ z. not (is_behind x z) ≡ false) (λ z h. ap not h) xs behind)) in
    let later : filter (is_behind x) (x ∷ xs) ≡ xs = rw (here, filter_all _ xs behind) in
    let head = one x _ (subst (λ l. IsPermutation l (filter (λ z. not (is_behind x z)) ys)) first (IsPermutation-filter (λ z. not (is_behind x z)) _ _ same)) in
    let tail = same_order xs _ strict.1 (subst (λ l. IsPermutation l (filter (is_behind x) ys)) later (IsPermutation-filter (is_behind x) _ _ same)) (pairs-filter NotAfter _ ys up) in
    split x ys up ∙ ap₂ ◌++◌ head tail

-- ---- names one by one

all-with_name : (P : Named → Type 0) (new : Named) (xs : List Named) → P new → AllByRecursion P xs → AllByRecursion P (with_name_in_order new xs)
all-with_name P new [] h all = (h, tt)
all-with_name P new (x ∷ xs) h all =
    elim (is_gt (compare new x)) as (λ b. AllByRecursion P (cond b (x ∷ with_name_in_order new xs) (new ∷ x ∷ xs))) [ true ↦ (all.0, all-with_name P new xs h all.1) | false ↦ (h, all) ]

all-in_order : (P : Named → Type 0) (xs : List Named) → AllByRecursion P xs → AllByRecursion P (in_order xs)
all-in_order P [] all = tt
all-in_order P (x ∷ xs) all = all-with_name P x _ all.0 (all-in_order P xs all.1)

rises-with_name : (new : Named) (xs : List Named) → AllByRecursion (λ y. is_eq (compare new y) ≡ false) xs → Pairwise Before xs → Pairwise Before (with_name_in_order new xs)
rises-with_name new [] apart up = (tt, tt)
rises-with_name new (x ∷ xs) apart up = go (compare new x) refl (rises-with_name new xs apart.1 up.1)
  where
    go : (o : Ordering) → compare new x ≡ o → Pairwise Before (with_name_in_order new xs)
        → Pairwise Before (cond (is_gt o) (x ∷ with_name_in_order new xs) (new ∷ x ∷ xs))
    go Less e more = ((e, all_weaker _ (λ y. Before new y) (λ y. compare_total.trans new x y e) xs up.0), up)
    go Equal e more = absurd (true≢false (sym (ap is_eq e) ∙ apart.0))
    go Greater e more = (all-with_name _ new xs (compare_total.antisymm x new ∙ ap ordering_reverse e) up.0, more)

pub rises-in_order : (xs : List Named) → HasNoTies xs → Pairwise Before (in_order xs)
rises-in_order [] apart = tt
rises-in_order (x ∷ xs) apart = rises-with_name x _ (all-in_order _ xs apart.0) (rises-in_order xs apart.1)

IsPermutation-with_name : (new : Named) (xs : List Named) → IsPermutation (with_name_in_order new xs) (new ∷ xs)
IsPermutation-with_name new [] = IsPermutation-refl _
IsPermutation-with_name new (x ∷ xs) =
    elim (is_gt (compare new x)) as (λ b. IsPermutation (cond b (x ∷ with_name_in_order new xs) (new ∷ x ∷ xs)) (new ∷ x ∷ xs)) [
      | true ↦ IsPermutation-trans _ _ _ (IsPermutation-cons x _ _ (IsPermutation-with_name new xs)) (IsPermutation-middle (x ∷ []) new xs)
      | false ↦ IsPermutation-refl _
    ]

pub IsPermutation-in_order : (xs : List Named) → IsPermutation (in_order xs) xs
IsPermutation-in_order [] = IsPermutation-refl []
IsPermutation-in_order (x ∷ xs) = IsPermutation-trans _ _ _ (IsPermutation-with_name x _) (IsPermutation-cons x _ _ (IsPermutation-in_order xs))

pub sorted_is-in_order : (xs ys : List Named) → HasNoTies xs → IsPermutation xs ys → Pairwise NotAfter ys → ys ≡ in_order xs
sorted_is-in_order xs ys apart same up = same_order _ ys (rises-in_order xs apart) (IsPermutation-trans _ _ _ (IsPermutation-in_order xs) same) up

-- the same of names as they are handed out
pub sorted_names : (xs ys : List DefinedName) → HasNoTies (map named_of xs) → IsPermutation xs ys → IsSorted (on named_of compare) ys → map named_of ys ≡ in_order (map named_of xs)
sorted_names xs ys apart same sorted =
    sorted_is-in_order (map named_of xs) (map named_of ys) apart (IsPermutation-map named_of xs ys same)
    (pairs-map NotAfter named_of ys (pairs_from_sorted (on named_of compare) (on_total named_of compare_total) ys sorted))
