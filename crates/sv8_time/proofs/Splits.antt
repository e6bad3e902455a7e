-- A list in rising order is what comes before an element, what stands at its place, and what comes after it.
use Rattle.std.proofs.Common.{◌≡◌, ◌∙◌, refl, sym, ap, Bool, true, false, not, cond, List, [], ◌∷◌, ◌++◌}
use Rattle.std.specs.List.{filter, find}
use Rattle.std.specs.Cmp.{IsStrictWeakOrder}
use Rattle.std.proofs.lemmas.Bool.{false_from_ne_true, both_ways}
use Rattle.std.proofs.lemmas.List.{append-nil, append_assoc}
use Rattle.std.proofs.lemmas.List.Elements.{filter-append}
use Rattle.sv8_time.specs.Order.{Each, Rising, placed}
use Rattle.sv8_time.proofs.Parts.{each_map, each_passes, filter_all, filter_none, behind, not_before}
use Rattle.sv8_time.proofs.Places.{IsSame, others, same_first, same_last}

pub split : {X : Type 0} (before : X → X → Bool) (same : X → Bool) (k : X) → IsStrictWeakOrder before → IsSame before same k → (xs : List X) → Rising before xs
    → xs ≡ filter (λ y. before y k) xs ++ (filter same xs ++ filter (λ y. before k y) xs)
split before same k o s [] h = refl
split before same k o s (x ∷ xs) h = go (split before same k o s xs h.1) (before x k) (before k x) refl refl
  where
    go : xs ≡ filter (λ y. before y k) xs ++ (filter same xs ++ filter (λ y. before k y) xs) → (a b : Bool) → before x k ≡ a → before k x ≡ b
        → (x ∷ xs) ≡ filter (λ y. before y k) (x ∷ xs) ++ (filter same (x ∷ xs) ++ filter (λ y. before k y) (x ∷ xs))
    go ih true b e f = rw (e, same_first (before x k) (before k x) (same x) (s x) e, o.one_way x k e) (ap (λ l. x ∷ l) ih)
    go ih false true e f =
        let after = behind before o k x xs h.0 e in
        rw (e, same_last (before x k) (before k x) (same x) (s x) f, f, filter_none (λ y. before y k) xs (not_before before o k xs after), filter_none same xs (others before same k s xs after), filter_all (λ y. before k y) xs after) refl
    go ih false false e f =
        let after = behind before o k x xs h.0 e in
        let p : same x ≡ true = s x ∙ rw (e, f) refl in
        rw (e, p, f, filter_none (λ y. before y k) xs (not_before before o k xs after), filter_none same xs (others before same k s xs after), filter_all (λ y. before k y) xs after) refl

-- the elements at other places
pub rest_is : {X : Type 0} (before : X → X → Bool) (same : X → Bool) (k : X) → IsStrictWeakOrder before → IsSame before same k → (xs : List X) → Rising before xs
    → filter (λ y. not (same y)) xs ≡ filter (λ y. before y k) xs ++ filter (λ y. before k y) xs
rest_is before same k o s [] h = refl
rest_is before same k o s (x ∷ xs) h = go (rest_is before same k o s xs h.1) (before x k) (before k x) refl refl
  where
    go : filter (λ y. not (same y)) xs ≡ filter (λ y. before y k) xs ++ filter (λ y. before k y) xs → (a b : Bool) → before x k ≡ a → before k x ≡ b
        → filter (λ y. not (same y)) (x ∷ xs) ≡ filter (λ y. before y k) (x ∷ xs) ++ filter (λ y. before k y) (x ∷ xs)
    go ih true b e f = rw (e, same_first (before x k) (before k x) (same x) (s x) e, o.one_way x k e) (ap (λ l. x ∷ l) ih)
    go ih false true e f =
        let after = behind before o k x xs h.0 e in
        rw (e, same_last (before x k) (before k x) (same x) (s x) f, f, filter_none (λ y. before y k) xs (not_before before o k xs after), filter_all (λ y. before k y) xs after)
        (ap (λ l. x ∷ l) (filter_all (λ y. not (same y)) xs (each_map (λ y. same y ≡ false) (λ y. not (same y) ≡ true) (λ y g. rw g refl) xs (others before same k s xs after))))
    go ih false false e f =
        let after = behind before o k x xs h.0 e in
        let p : same x ≡ true = s x ∙ rw (e, f) refl in
        rw (e, p, f, filter_none (λ y. before y k) xs (not_before before o k xs after), filter_all (λ y. before k y) xs after)
        (filter_all (λ y. not (same y)) xs (each_map (λ y. same y ≡ false) (λ y. not (same y) ≡ true) (λ y g. rw g refl) xs (others before same k s xs after)))

-- an element placed between what comes before it and what comes after it
pub placed_within : {X : Type 0} (before : X → X → Bool) → IsStrictWeakOrder before → (p : X) (b m a : List X) → Each (λ y. before y p ≡ true) b → Each (λ y. before p y ≡ true) a
    → placed before p (b ++ (m ++ a)) ≡ b ++ (placed before p m ++ a)
placed_within before o p b m a h k =
    let low : filter (λ y. before y p) (b ++ (m ++ a)) ≡ b ++ filter (λ y. before y p) m =
    filter-append (λ y. before y p) b (m ++ a) ∙ rw (filter_all (λ y. before y p) b h, filter-append (λ y. before y p) m a, filter_none (λ y. before y p) a (not_before before o p a k), append-nil (filter (λ y. before y p) m)) refl in
    let high : filter (λ y. before p y) (b ++ (m ++ a)) ≡ filter (λ y. before p y) m ++ a =
    filter-append (λ y. before p y) b (m ++ a) ∙ rw (filter_none (λ y. before p y) b (each_map (λ y. before y p ≡ true) (λ y. before p y ≡ false) (λ y e. o.one_way y p e) b h), filter-append (λ y. before p y) m a, filter_all (λ y. before p y) a k) refl in
    rw (low, high, append_assoc b (filter (λ y. before y p) m) (p ∷ (filter (λ y. before p y) m ++ a)), append_assoc (filter (λ y. before y p) m) (p ∷ filter (λ y. before p y) m) a) refl

pub filter_within : {X : Type 0} (p : X → Bool) (b m a : List X) → Each (λ y. p y ≡ true) b → Each (λ y. p y ≡ true) a → filter p (b ++ (m ++ a)) ≡ b ++ (filter p m ++ a)
filter_within p b m a h k = filter-append p b (m ++ a) ∙ rw (filter_all p b h, filter-append p m a, filter_all p a k) refl

-- the element at its place once it is placed
pub placed_there : {X : Type 0} (before : X → X → Bool) (same : X → Bool) (k : X) → IsSame before same k → same k ≡ true → (xs : List X) → filter same (placed before k xs) ≡ k ∷ []
placed_there before same k s e xs =
    let low : filter same (filter (λ y. before y k) xs) ≡ [] = filter_none same (filter (λ y. before y k) xs) (each_map (λ y. before y k ≡ true) (λ y. same y ≡ false) (λ y f. same_first (before y k) (before k y) (same y) (s y) f) (filter (λ y. before y k) xs) (each_passes (λ y. before y k) xs)) in
    let high : filter same (filter (λ y. before k y) xs) ≡ [] = filter_none same (filter (λ y. before k y) xs) (others before same k s (filter (λ y. before k y) xs) (each_passes (λ y. before k y) xs)) in
    filter-append same (filter (λ y. before y k) xs) (k ∷ filter (λ y. before k y) xs) ∙ rw (low, e, high) refl

-- what a placed element leaves at other places
pub placed_elsewhere : {X : Type 0} (before : X → X → Bool) (same other : X → Bool) (k : X) → IsStrictWeakOrder before → IsSame before same k → ((y : X) → same y ≡ true → other y ≡ false) → other k ≡ false → (xs : List X) → Rising before xs
    → filter other (placed before k xs) ≡ filter other xs
placed_elsewhere before same other k o s f e xs h =
    let low = filter (λ y. before y k) xs in
    let high = filter (λ y. before k y) xs in
    let mid : filter other (filter same xs) ≡ [] = filter_none other (filter same xs) (each_map (λ y. same y ≡ true) (λ y. other y ≡ false) f (filter same xs) (each_passes same xs)) in
    let whole : filter other xs ≡ filter other low ++ filter other high =
    ap (λ l. filter other l) (split before same k o s xs h) ∙ (filter-append other low (filter same xs ++ high) ∙ rw (filter-append other (filter same xs) high, mid) refl) in
    filter-append other low (k ∷ high) ∙ (rw e refl ∙ sym whole)

-- what dropping a place leaves there, and at other places
pub dropped_there : {X : Type 0} (same : X → Bool) (xs : List X) → filter same (filter (λ y. not (same y)) xs) ≡ []
dropped_there same xs = filter_none same (filter (λ y. not (same y)) xs) (each_map (λ y. not (same y) ≡ true) (λ y. same y ≡ false) (λ y e. false_from_ne_true (same y) (λ f. both_ways (not (same y)) (rw f refl) e)) (filter (λ y. not (same y)) xs) (each_passes (λ y. not (same y)) xs))

pub dropped_elsewhere : {X : Type 0} (same other : X → Bool) → ((y : X) → same y ≡ true → other y ≡ false) → (xs : List X) → filter other (filter (λ y. not (same y)) xs) ≡ filter other xs
dropped_elsewhere same other f [] = refl
dropped_elsewhere same other f (x ∷ xs) = go (dropped_elsewhere same other f xs) (same x) refl
  where
    go : filter other (filter (λ y. not (same y)) xs) ≡ filter other xs → (b : Bool) → same x ≡ b → filter other (filter (λ y. not (same y)) (x ∷ xs)) ≡ filter other (x ∷ xs)
    go ih true e = rw (e, f x e) ih
    go ih false e = rw (e, ih) refl

-- a search within a part
pub find_within : {X : Type 0} (p q : X → Bool) (xs : List X) → find p (filter q xs) ≡ find (λ x. cond (q x) (p x) false) xs
find_within p q [] = refl
find_within p q (x ∷ xs) = go (find_within p q xs) (q x) refl
  where
    go : find p (filter q xs) ≡ find (λ y. cond (q y) (p y) false) xs → (b : Bool) → q x ≡ b → find p (filter q (x ∷ xs)) ≡ find (λ y. cond (q y) (p y) false) (x ∷ xs)
    go ih true e = rw (e, ih) refl
    go ih false e = rw (e, ih) refl
