-- The places of elements with two numbers, in a list in rising order.
use Rattle.std.proofs.Common.{nat_le, sym, ap, refl, ◌∙◌, ◌≡◌, arith, ℕ, ◌≤◌, Bool, true, false, not, ◌&&◌, List, [], ◌∷◌, drop, length, nat_lt, ◌==◌, one-add}
use Rattle.std.specs.List.{filter, prefix_len, slice_range}
use Rattle.std.proofs.lemmas.List.Elements.{filter_agree}
use Rattle.sv8_time.proofs.Parts.{Parted, parted_rising, each_map, filter_all}
use Rattle.std.proofs.lemmas.Bool.Decides.{nat_tests}
use Rattle.sv8_time.specs.Order.{Rising, Stands, Misses, passes_at, place_before, comes_before, is_at, of_major, of_major_behind, behind_major}
use Rattle.sv8_time.proofs.Places.{stands_at, misses_at, part_between, prefix_le}
use Rattle.sv8_time.proofs.Orders.{key_order}

pub same_place : (a b c d : ℕ) → (a == c && b == d) ≡ (not (place_before a b c d) && not (place_before c d a b))
same_place a b c d = grind (arith, nat_tests)

pub key_stands : {X : Type 0} (major minor : X → ℕ) (k : X) (xs : List X) (i : ℕ) → Rising (comes_before major minor) xs → i ≡ prefix_len (λ x. comes_before major minor x k) xs → passes_at (is_at major minor (major k) (minor k)) xs i ≡ true
    → Stands (comes_before major minor) (is_at major minor (major k) (minor k)) k xs i
key_stands major minor k xs i h e t = stands_at (comes_before major minor) (is_at major minor (major k) (minor k)) k (key_order major minor) (λ x. same_place (major x) (minor x) (major k) (minor k)) xs h i e t

pub key_misses : {X : Type 0} (major minor : X → ℕ) (k : X) (xs : List X) (i : ℕ) → Rising (comes_before major minor) xs → i ≡ prefix_len (λ x. comes_before major minor x k) xs → i ≤ length xs → passes_at (is_at major minor (major k) (minor k)) xs i ≡ false
    → Misses (comes_before major minor) (is_at major minor (major k) (minor k)) k xs i
key_misses major minor k xs i h e l t = misses_at (comes_before major minor) (is_at major minor (major k) (minor k)) k (key_order major minor) (λ x. same_place (major x) (minor x) (major k) (minor k)) xs h i e l t

-- an element that comes before another has no later major
major_le : (a b c d : ℕ) → place_before a b c d ≡ true → a ≤ c
major_le a b c d h = grind (arith, nat_tests)

lt_stays : (a b n : ℕ) → a ≤ b → nat_lt a n ≡ false → nat_lt b n ≡ false
lt_stays a b n h e = grind (arith, nat_tests)

le_stays : (a b n : ℕ) → a ≤ b → nat_le a n ≡ false → nat_le b n ≡ false
le_stays a b n h e = grind (arith, nat_tests)

lt_le : (a n : ℕ) → nat_lt a n ≡ true → nat_le a n ≡ true
lt_le a n h = grind (arith, nat_tests)

at_major : (a n : ℕ) → (a == n) ≡ (not (nat_lt a n) && nat_le a n)
at_major a n = grind (arith, nat_tests)

pub keys_below : {X : Type 0} (major minor : X → ℕ) (n : ℕ) (xs : List X) → Rising (comes_before major minor) xs → Parted (λ x. nat_lt (major x) n) xs
keys_below major minor n xs h = parted_rising (comes_before major minor) (λ x. nat_lt (major x) n) (λ x y b e. lt_stays (major x) (major y) n (major_le (major x) (minor x) (major y) (minor y) b) e) xs h

pub keys_up_to : {X : Type 0} (major minor : X → ℕ) (n : ℕ) (xs : List X) → Rising (comes_before major minor) xs → Parted (λ x. nat_le (major x) n) xs
keys_up_to major minor n xs h = parted_rising (comes_before major minor) (λ x. nat_le (major x) n) (λ x y b e. le_stays (major x) (major y) n (major_le (major x) (minor x) (major y) (minor y) b) e) xs h

pub keys_order : {X : Type 0} (major : X → ℕ) (n : ℕ) (xs : List X) → prefix_len (λ x. nat_lt (major x) n) xs ≤ prefix_len (λ x. nat_le (major x) n) xs
keys_order major n xs = prefix_le (λ x. nat_lt (major x) n) (λ x. nat_le (major x) n) (λ x e. lt_le (major x) n e) xs

pub keys_between : {X : Type 0} (major minor : X → ℕ) (n : ℕ) (xs : List X) → Rising (comes_before major minor) xs → slice_range xs (prefix_len (λ x. nat_lt (major x) n) xs) (prefix_len (λ x. nat_le (major x) n) xs) ≡ of_major major n xs
keys_between major minor n xs h = sym (filter_agree (λ x. major x == n) (λ x. not (nat_lt (major x) n) && nat_le (major x) n) (λ x. at_major (major x) n) xs
    ∙ part_between (λ x. nat_lt (major x) n) (λ x. nat_le (major x) n) (λ x e. lt_le (major x) n e) xs (keys_below major minor n xs h) (keys_up_to major minor n xs h))

-- what does not come after a place is in front
not_after_stays : (a b c d m n : ℕ) → place_before a b c d ≡ true → not (place_before m n a b) ≡ false → not (place_before m n c d) ≡ false
not_after_stays a b c d m n h e = grind (arith, nat_tests)

pub keys_through : {X : Type 0} (major minor : X → ℕ) (m n : ℕ) (xs : List X) → Rising (comes_before major minor) xs → Parted (λ x. not (place_before m n (major x) (minor x))) xs
keys_through major minor m n xs h = parted_rising (comes_before major minor) (λ x. not (place_before m n (major x) (minor x))) (λ x y b e. not_after_stays (major x) (minor x) (major y) (minor y) m n b e) xs h

through_le : (a b m n : ℕ) → not (place_before m n a b) ≡ true → nat_le a m ≡ true
through_le a b m n h = grind (arith, nat_tests)

at_behind : (a b m n : ℕ) → (a == m && nat_lt n b) ≡ (not (not (place_before m n a b)) && nat_le a m)
at_behind a b m n = grind (arith, nat_tests)

pub behind_order : {X : Type 0} (major minor : X → ℕ) (m n : ℕ) (xs : List X) → prefix_len (λ x. not (place_before m n (major x) (minor x))) xs ≤ prefix_len (λ x. nat_le (major x) m) xs
behind_order major minor m n xs = prefix_le (λ x. not (place_before m n (major x) (minor x))) (λ x. nat_le (major x) m) (λ x e. through_le (major x) (minor x) m n e) xs

pub behind_part : {X : Type 0} (major minor : X → ℕ) (m n : ℕ) (xs : List X) → Rising (comes_before major minor) xs
    → slice_range xs (prefix_len (λ x. not (place_before m n (major x) (minor x))) xs) (prefix_len (λ x. nat_le (major x) m) xs) ≡ of_major_behind major minor m n xs
behind_part major minor m n xs h = sym (filter_agree (λ x. major x == m && nat_lt n (minor x)) (λ x. not (not (place_before m n (major x) (minor x))) && nat_le (major x) m) (λ x. at_behind (major x) (minor x) m n) xs
    ∙ part_between (λ x. not (place_before m n (major x) (minor x))) (λ x. nat_le (major x) m) (λ x e. through_le (major x) (minor x) m n e) xs (keys_through major minor m n xs h) (keys_up_to major minor m xs h))

lt_not_le : (a n : ℕ) → nat_lt n a ≡ not (nat_le a n)
lt_not_le a n = grind (arith, nat_tests)

-- what does not pass stands behind what does
pub filter_back : {X : Type 0} (p : X → Bool) (xs : List X) → Parted p xs → drop (prefix_len p xs) xs ≡ filter (λ x. not (p x)) xs
filter_back p [] h = refl
filter_back p (x ∷ xs) h = go (filter_back p xs h.1) (p x) refl
  where
    go : drop (prefix_len p xs) xs ≡ filter (λ y. not (p y)) xs → (b : Bool) → p x ≡ b → drop (prefix_len p (x ∷ xs)) (x ∷ xs) ≡ filter (λ y. not (p y)) (x ∷ xs)
    go ih true e = rw (e, one-add) ih
    go ih false e = rw e (ap (λ l. x ∷ l) (sym (filter_all (λ y. not (p y)) xs (each_map (λ y. p y ≡ false) (λ y. not (p y) ≡ true) (λ y f. rw f refl) xs (h.0 e)))))

pub behind_back : {X : Type 0} (major minor : X → ℕ) (n : ℕ) (xs : List X) → Rising (comes_before major minor) xs → drop (prefix_len (λ x. nat_le (major x) n) xs) xs ≡ behind_major major n xs
behind_back major minor n xs h = filter_back (λ x. nat_le (major x) n) xs (keys_up_to major minor n xs h) ∙ sym (filter_agree (λ x. nat_lt n (major x)) (λ x. not (nat_le (major x) n)) (λ x. lt_not_le (major x) n) xs)
