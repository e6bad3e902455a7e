-- The place of an element in a list in rising order, and the part that one step has.
use Rattle.std.proofs.Common.{length-set, ◌≡◌, ◌∙◌, refl, ap, subst, arith, ℕ, zero, suc, ◌+◌, ◌-◌, ◌<◌, ◌≤◌, Bool, true, false, not, cond, ◌&&◌, ◌||◌, List, [], ◌∷◌, length, set, one-add}
use Rattle.std.specs.List.{filter, prefix_len, insert, remove, list_any, slice_range, slice_get}
use Rattle.std.proofs.lemmas.List.Edits.{length-insert}
use Rattle.std.specs.Option.{option_to_list}
use Rattle.std.specs.Cmp.{IsStrictWeakOrder}
use Rattle.std.proofs.lemmas.Bool.{or_parts, false≢true}
use Rattle.sv8_time.specs.Order.{Each, Rising, placed, passes_at, Stands, Misses}
use Rattle.sv8_time.proofs.Parts.{rising_placed, rising_filter, Parted, each_map, filter_all, filter_none, any_none, prefix_none, behind, not_before}

pub passes_within : {X : Type 0} (p : X → Bool) (xs : List X) (i : ℕ) → passes_at p xs i ≡ true → i < length xs
passes_within p [] i h = absurd (false≢true h)
passes_within p (x ∷ xs) zero h = omega arith
passes_within p (x ∷ xs) (suc i) h = let l = passes_within p xs i h in omega arith

pub passes_any : {X : Type 0} (p : X → Bool) (xs : List X) (i : ℕ) → passes_at p xs i ≡ true → list_any p xs ≡ true
passes_any p [] i h = absurd (false≢true h)
passes_any p (x ∷ xs) zero h = rw h refl
passes_any p (x ∷ xs) (suc i) h = elim (p x) as (λ b. (b || list_any p xs) ≡ true) [ true ↦ refl | false ↦ passes_any p xs i h ]

-- an element that comes before k, or after it, has another place
pub same_first : (a b s : Bool) → s ≡ (not a && not b) → a ≡ true → s ≡ false
same_first a b s h e = grind arith

pub same_last : (a b s : Bool) → s ≡ (not a && not b) → b ≡ true → s ≡ false
same_last a b s h e = grind arith

same_not : (a b s : Bool) → s ≡ (not a && not b) → s ≡ true → b ≡ false
same_not a b s h e = grind arith

other_after : (a b s : Bool) → s ≡ (not a && not b) → a ≡ false → s ≡ false → b ≡ true
other_after a b s h e f = grind arith

abbrev pub IsSame : {X : Type 0} → (X → X → Bool) → (X → Bool) → X → Type 0
IsSame {X} before same k = (y : X) → same y ≡ (not (before y k) && not (before k y))

pub others : {X : Type 0} (before : X → X → Bool) (same : X → Bool) (k : X) → IsSame before same k → (xs : List X) → Each (λ y. before k y ≡ true) xs → Each (λ y. same y ≡ false) xs
others before same k s xs h = each_map (λ y. before k y ≡ true) (λ y. same y ≡ false) (λ y e. same_last (before y k) (before k y) (same y) (s y) e) xs h

pub replaced_at : {X : Type 0} (before : X → X → Bool) (same : X → Bool) (k : X) → IsStrictWeakOrder before → IsSame before same k → (xs : List X) → Rising before xs
    → passes_at same xs (prefix_len (λ y. before y k) xs) ≡ true → placed before k xs ≡ set xs (prefix_len (λ y. before y k) xs) k
replaced_at before same k o s [] h t = absurd (false≢true t)
replaced_at before same k o s (x ∷ xs) h t = go (replaced_at before same k o s xs h.1) (before x k) refl t
  where
    go : (passes_at same xs (prefix_len (λ y. before y k) xs) ≡ true → placed before k xs ≡ set xs (prefix_len (λ y. before y k) xs) k) → (b : Bool) → before x k ≡ b → passes_at same (x ∷ xs) (cond b (1 + prefix_len (λ y. before y k) xs) 0) ≡ true
        → placed before k (x ∷ xs) ≡ set (x ∷ xs) (cond (before x k) (1 + prefix_len (λ y. before y k) xs) 0) k
    go ih true e p =
        let q : passes_at same xs (prefix_len (λ y. before y k) xs) ≡ true = rw one-add at p in
        let f = o.one_way x k e in
        rw (e, f, one-add) (ap (λ l. x ∷ l) (ih q))
    go ih false e p =
        let f = same_not (before x k) (before k x) (same x) (s x) p in
        let after = behind before o k x xs h.0 e in
        rw (e, f, filter_none (λ y. before y k) xs (not_before before o k xs after), filter_all (λ y. before k y) xs after) refl

pub removed_at : {X : Type 0} (before : X → X → Bool) (same : X → Bool) (k : X) → IsStrictWeakOrder before → IsSame before same k → (xs : List X) → Rising before xs
    → passes_at same xs (prefix_len (λ y. before y k) xs) ≡ true → filter (λ y. not (same y)) xs ≡ remove xs (prefix_len (λ y. before y k) xs)
removed_at before same k o s [] h t = absurd (false≢true t)
removed_at before same k o s (x ∷ xs) h t = go (removed_at before same k o s xs h.1) (before x k) refl t
  where
    go : (passes_at same xs (prefix_len (λ y. before y k) xs) ≡ true → filter (λ y. not (same y)) xs ≡ remove xs (prefix_len (λ y. before y k) xs)) → (b : Bool) → before x k ≡ b → passes_at same (x ∷ xs) (cond b (1 + prefix_len (λ y. before y k) xs) 0) ≡ true
        → filter (λ y. not (same y)) (x ∷ xs) ≡ remove (x ∷ xs) (cond (before x k) (1 + prefix_len (λ y. before y k) xs) 0)
    go ih true e p =
        let q : passes_at same xs (prefix_len (λ y. before y k) xs) ≡ true = rw one-add at p in
        rw (e, same_first (before x k) (before k x) (same x) (s x) e, one-add) (ap (λ l. x ∷ l) (ih q))
    go ih false e p =
        rw (e, p) (filter_all (λ y. not (same y)) xs (each_map (λ y. same y ≡ false) (λ y. not (same y) ≡ true) (λ y f. rw f refl) xs (others before same k s xs (behind before o k x xs h.0 e))))

pub alone_at : {X : Type 0} (before : X → X → Bool) (same : X → Bool) (k : X) → IsStrictWeakOrder before → IsSame before same k → (xs : List X) → Rising before xs
    → passes_at same xs (prefix_len (λ y. before y k) xs) ≡ true → filter same xs ≡ option_to_list (slice_get xs (prefix_len (λ y. before y k) xs))
alone_at before same k o s [] h t = absurd (false≢true t)
alone_at before same k o s (x ∷ xs) h t = go (alone_at before same k o s xs h.1) (before x k) refl t
  where
    go : (passes_at same xs (prefix_len (λ y. before y k) xs) ≡ true → filter same xs ≡ option_to_list (slice_get xs (prefix_len (λ y. before y k) xs))) → (b : Bool) → before x k ≡ b → passes_at same (x ∷ xs) (cond b (1 + prefix_len (λ y. before y k) xs) 0) ≡ true
        → filter same (x ∷ xs) ≡ option_to_list (slice_get (x ∷ xs) (cond (before x k) (1 + prefix_len (λ y. before y k) xs) 0))
    go ih true e p =
        let q : passes_at same xs (prefix_len (λ y. before y k) xs) ≡ true = rw one-add at p in
        rw (e, same_first (before x k) (before k x) (same x) (s x) e, one-add) (ih q)
    go ih false e p =
        rw (e, p, filter_none same xs (others before same k s xs (behind before o k x xs h.0 e))) refl

any_filter : {X : Type 0} (p : X → Bool) (xs : List X) → list_any p xs ≡ false → filter p xs ≡ []
any_filter p [] h = refl
any_filter p (x ∷ xs) h = let e = or_parts (p x) (list_any p xs) h in rw e.0 (any_filter p xs e.1)

pub inserted_at : {X : Type 0} (before : X → X → Bool) (same : X → Bool) (k : X) → IsStrictWeakOrder before → IsSame before same k → (xs : List X) → Rising before xs
    → passes_at same xs (prefix_len (λ y. before y k) xs) ≡ false → placed before k xs ≡ insert xs (prefix_len (λ y. before y k) xs) k
inserted_at before same k o s [] h t = refl
inserted_at before same k o s (x ∷ xs) h t = go (inserted_at before same k o s xs h.1) (before x k) refl t
  where
    go : (passes_at same xs (prefix_len (λ y. before y k) xs) ≡ false → placed before k xs ≡ insert xs (prefix_len (λ y. before y k) xs) k) → (b : Bool) → before x k ≡ b → passes_at same (x ∷ xs) (cond b (1 + prefix_len (λ y. before y k) xs) 0) ≡ false
        → placed before k (x ∷ xs) ≡ insert (x ∷ xs) (cond (before x k) (1 + prefix_len (λ y. before y k) xs) 0) k
    go ih true e p =
        let q : passes_at same xs (prefix_len (λ y. before y k) xs) ≡ false = rw one-add at p in
        let f = o.one_way x k e in
        rw (e, f, one-add) (ap (λ l. x ∷ l) (ih q))
    go ih false e p =
        let f = other_after (before x k) (before k x) (same x) (s x) e p in
        let after = behind before o k x xs h.0 e in
        rw (e, f, filter_none (λ y. before y k) xs (not_before before o k xs after), filter_all (λ y. before k y) xs after) refl

pub absent_at : {X : Type 0} (before : X → X → Bool) (same : X → Bool) (k : X) → IsStrictWeakOrder before → IsSame before same k → (xs : List X) → Rising before xs
    → passes_at same xs (prefix_len (λ y. before y k) xs) ≡ false → list_any same xs ≡ false
absent_at before same k o s [] h t = refl
absent_at before same k o s (x ∷ xs) h t = go (absent_at before same k o s xs h.1) (before x k) refl t
  where
    go : (passes_at same xs (prefix_len (λ y. before y k) xs) ≡ false → list_any same xs ≡ false) → (b : Bool) → before x k ≡ b → passes_at same (x ∷ xs) (cond b (1 + prefix_len (λ y. before y k) xs) 0) ≡ false → list_any same (x ∷ xs) ≡ false
    go ih true e p =
        let q : passes_at same xs (prefix_len (λ y. before y k) xs) ≡ false = rw one-add at p in
        rw (same_first (before x k) (before k x) (same x) (s x) e) (ih q)
    go ih false e p = rw p (any_none same xs (others before same k s xs (behind before o k x xs h.0 e)))

pub stands_at : {X : Type 0} (before : X → X → Bool) (same : X → Bool) (k : X) → IsStrictWeakOrder before → IsSame before same k → (xs : List X) → Rising before xs
    → (i : ℕ) → i ≡ prefix_len (λ y. before y k) xs → passes_at same xs i ≡ true → Stands before same k xs i
stands_at before same k o s xs h i e t =
    let u : passes_at same xs (prefix_len (λ y. before y k) xs) ≡ true = subst (λ j. passes_at same xs j ≡ true) e t in
    record {
      within = passes_within same xs i t;
      present = passes_any same xs i t;
      replaced = rw e (replaced_at before same k o s xs h u);
      rising = rw e (subst (λ l. Rising before l) (replaced_at before same k o s xs h u) (rising_placed before o k xs h));
      count = ap length (replaced_at before same k o s xs h u) ∙ length-set xs (prefix_len (λ y. before y k) xs) k;
      removed = rw e (removed_at before same k o s xs h u);
      alone = rw e (alone_at before same k o s xs h u);
      rising_rest = rw e (subst (λ l. Rising before l) (removed_at before same k o s xs h u) (rising_filter before (λ y. not (same y)) xs h));
    }

pub misses_at : {X : Type 0} (before : X → X → Bool) (same : X → Bool) (k : X) → IsStrictWeakOrder before → IsSame before same k → (xs : List X) → Rising before xs
    → (i : ℕ) → i ≡ prefix_len (λ y. before y k) xs → i ≤ length xs → passes_at same xs i ≡ false → Misses before same k xs i
misses_at before same k o s xs h i e l t =
    let u : passes_at same xs (prefix_len (λ y. before y k) xs) ≡ false = subst (λ j. passes_at same xs j ≡ false) e t in
    record {
      within = l;
      absent = absent_at before same k o s xs h u;
      none = any_filter same xs (absent_at before same k o s xs h u);
      inserted = rw e (inserted_at before same k o s xs h u);
      rising = rw e (subst (λ l. Rising before l) (inserted_at before same k o s xs h u) (rising_placed before o k xs h));
      count = ap length (inserted_at before same k o s xs h u) ∙ length-insert xs (prefix_len (λ y. before y k) xs) k (subst (λ j. j ≤ length xs) e l);
    }

and_false : (b : Bool) → (b && false) ≡ false
and_false true = refl
and_false false = refl

-- what lies between two parts, of which the first is in the second
pub part_between : {X : Type 0} (low high : X → Bool) → ((x : X) → low x ≡ true → high x ≡ true) → (xs : List X) → Parted low xs → Parted high xs
    → filter (λ y. not (low y) && high y) xs ≡ slice_range xs (prefix_len low xs) (prefix_len high xs)
part_between low high f [] h k = refl
part_between low high f (x ∷ xs) h k = go (part_between low high f xs h.1 k.1) (low x) (high x) refl refl
  where
    go : filter (λ y. not (low y) && high y) xs ≡ slice_range xs (prefix_len low xs) (prefix_len high xs) → (a b : Bool) → low x ≡ a → high x ≡ b → filter (λ y. not (low y) && high y) (x ∷ xs) ≡ slice_range (x ∷ xs) (prefix_len low (x ∷ xs)) (prefix_len high (x ∷ xs))
    go ih true b e g =
        let g' = f x e in
        let m : (1 + prefix_len high xs) - (1 + prefix_len low xs) ≡ prefix_len high xs - prefix_len low xs = omega arith in
        rw (e, g', m, one-add) ih
    go ih false true e g =
        let z = prefix_none low xs (h.0 e) in
        let m : (1 + prefix_len high xs) - 0 ≡ suc (prefix_len high xs) = omega arith in
        let n : prefix_len high xs - 0 ≡ prefix_len high xs = omega arith in
        rw (e, g, m) (ap (λ l. x ∷ l) (ih ∙ rw (z, n) refl))
    go ih false false e g =
        rw (e, g) (filter_none (λ y. not (low y) && high y) xs (each_map (λ y. high y ≡ false) (λ y. (not (low y) && high y) ≡ false) (λ y z. rw z (and_false (not (low y)))) xs (k.0 g)))

pub prefix_le : {X : Type 0} (low high : X → Bool) → ((x : X) → low x ≡ true → high x ≡ true) → (xs : List X) → prefix_len low xs ≤ prefix_len high xs
prefix_le low high f [] = omega arith
prefix_le low high f (x ∷ xs) = go (prefix_le low high f xs) (low x) refl
  where
    go : prefix_len low xs ≤ prefix_len high xs → (a : Bool) → low x ≡ a → prefix_len low (x ∷ xs) ≤ prefix_len high (x ∷ xs)
    go ih true e = rw (e, f x e) (omega arith)
    go ih false e = rw e (omega arith)
