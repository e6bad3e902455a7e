-- The poked bytes of one word, among all.
use Rattle.std.proofs.Common.{◌≡◌, ◌∙◌, refl, ap, subst, arith, ℕ, zero, suc, ◌+◌, ◌<◌, ◌≤◌, Bool, true, false, not, ◌&&◌, ◌||◌, ◌==◌, List, [], ◌∷◌, ◌++◌, length, get_or, set, Option, Some, None, is_some, option_map}
use Rattle.std.specs.List.{filter}
use Rattle.std.specs.Prelude.{find}
use Rattle.std.proofs.lemmas.Bool.Decides.{nat_tests}
use Rattle.std.proofs.lemmas.List.Folds.{list_any-append}
use Rattle.sv8_time.specs.Order.{Each, place_before, passes_at}
use Rattle.sv8_time.specs.Schedule.{BytePoke, poke_of, poke_before, is_poke_at, has_poke, poked_at, put_poke, cut_poke}
use Rattle.sv8_time.specs.Words.{poked_from, with_bytes, is_poked}
use Rattle.sv8_time.proofs.Orders.{key_order}
use Rattle.sv8_time.proofs.Parts.{each_map, each_passes, filter_all, filter_none, any_none}
use Rattle.sv8_time.proofs.Splits.{placed_within, filter_within}

-- what holds of each byte of a word holds of those that are poked
pub poked_each : (P : BytePoke → Type 0) (step address : ℕ) (bytes : List (Option ℕ)) → ((k value : ℕ) → k < length bytes → P (poke_of step (address + k) value)) → Each P (poked_from step address bytes)
poked_each P step address [] f = tt
poked_each P step address (None ∷ bytes) f =
    poked_each P step (address + 1) bytes (λ k v l. let e : address + suc k ≡ address + 1 + k = omega arith in subst (λ n. P (poke_of step n v)) e (f (suc k) v (omega arith)))
poked_each P step address (Some value ∷ bytes) f = (
  let e : address + 0 ≡ address = omega arith in
      subst (λ n. P (poke_of step n value)) e (f 0 value (omega arith)),
  poked_each P step (address + 1) bytes (λ k v l. let e : address + suc k ≡ address + 1 + k = omega arith in subst (λ n. P (poke_of step n v)) e (f (suc k) v (omega arith))),
)

lt_place : (s a b : ℕ) → a < b → place_before s a s b ≡ true
lt_place s a b l = grind (arith, nat_tests)

le_place : (s a b : ℕ) → b ≤ a → place_before s a s b ≡ false
le_place s a b l = grind (arith, nat_tests)

at_place : (s a : ℕ) → (s == s && a == a) ≡ true
at_place s a = grind (arith, nat_tests)

lt_other : (s a b : ℕ) → a < b → (s == s && a == b) ≡ false
lt_other s a b l = grind (arith, nat_tests)

gt_other : (s a b : ℕ) → b < a → (s == s && a == b) ≡ false
gt_other s a b l = grind (arith, nat_tests)

-- the bytes behind one
rest_after : (step address : ℕ) (value : ℕ) (bytes : List (Option ℕ)) → Each (λ y. poke_before (poke_of step address value) y ≡ true) (poked_from step (address + 1) bytes)
rest_after step address value bytes = poked_each (λ y. poke_before (poke_of step address value) y ≡ true) step (address + 1) bytes (λ k v l. lt_place step address (address + 1 + k) (omega arith))

rest_not_before : (step address : ℕ) (value : ℕ) (bytes : List (Option ℕ)) → Each (λ y. poke_before y (poke_of step address value) ≡ false) (poked_from step (address + 1) bytes)
rest_not_before step address value bytes = poked_each (λ y. poke_before y (poke_of step address value) ≡ false) step (address + 1) bytes (λ k v l. le_place step (address + 1 + k) address (omega arith))

rest_elsewhere : (step address : ℕ) (bytes : List (Option ℕ)) → Each (λ y. is_poke_at step address y ≡ false) (poked_from step (address + 1) bytes)
rest_elsewhere step address bytes = poked_each (λ y. is_poke_at step address y ≡ false) step (address + 1) bytes (λ k v l. gt_other step (address + 1 + k) address (omega arith))

-- poking byte k of a word
put_first : (step address value : ℕ) (b : Option ℕ) (bytes : List (Option ℕ)) → put_poke (poke_of step address value) (poked_from step address (b ∷ bytes)) ≡ poked_from step address (Some value ∷ bytes)
put_first step address value None bytes =
    rw (filter_none (λ y. poke_before y (poke_of step address value)) (poked_from step (address + 1) bytes) (rest_not_before step address value bytes), filter_all (λ y. poke_before (poke_of step address value) y) (poked_from step (address + 1) bytes) (rest_after step address value bytes)) refl
put_first step address value (Some v) bytes =
    rw (le_place step address address (omega arith), filter_none (λ y. poke_before y (poke_of step address value)) (poked_from step (address + 1) bytes) (rest_not_before step address value bytes), filter_all (λ y. poke_before (poke_of step address value) y) (poked_from step (address + 1) bytes) (rest_after step address value bytes)) refl

pub put_in : (step address n k value : ℕ) (bytes : List (Option ℕ)) → n ≡ address + k → k < length bytes → put_poke (poke_of step n value) (poked_from step address bytes) ≡ poked_from step address (set bytes k (Some value))
put_in step address n k value [] e l = absurd (omega arith)
put_in step address n zero value (b ∷ bytes) e l = let f : n ≡ address = omega arith in rw f (put_first step address value b bytes)
put_in step address n (suc k) value (None ∷ bytes) e l = put_in step (address + 1) n k value bytes (omega arith) (omega arith)
put_in step address n (suc k) value (Some v ∷ bytes) e l =
    rw (lt_place step address n (omega arith), le_place step n address (omega arith)) (ap (λ l. poke_of step address v ∷ l) (put_in step (address + 1) n k value bytes (omega arith) (omega arith)))

-- clearing byte k of a word
cut_first : (step address : ℕ) (b : Option ℕ) (bytes : List (Option ℕ)) → cut_poke step address (poked_from step address (b ∷ bytes)) ≡ poked_from step address (None ∷ bytes)
cut_first step address None bytes = filter_all (λ y. not (is_poke_at step address y)) (poked_from step (address + 1) bytes) (each_map (λ y. is_poke_at step address y ≡ false) (λ y. not (is_poke_at step address y) ≡ true) (λ y e. rw e refl) (poked_from step (address + 1) bytes) (rest_elsewhere step address bytes))
cut_first step address (Some v) bytes =
    rw (at_place step address) (filter_all (λ y. not (is_poke_at step address y)) (poked_from step (address + 1) bytes) (each_map (λ y. is_poke_at step address y ≡ false) (λ y. not (is_poke_at step address y) ≡ true) (λ y e. rw e refl) (poked_from step (address + 1) bytes) (rest_elsewhere step address bytes)))

pub cut_in : (step address n k : ℕ) (bytes : List (Option ℕ)) → n ≡ address + k → k < length bytes → cut_poke step n (poked_from step address bytes) ≡ poked_from step address (set bytes k None)
cut_in step address n k [] e l = absurd (omega arith)
cut_in step address n zero (b ∷ bytes) e l = let f : n ≡ address = omega arith in rw f (cut_first step address b bytes)
cut_in step address n (suc k) (None ∷ bytes) e l = cut_in step (address + 1) n k bytes (omega arith) (omega arith)
cut_in step address n (suc k) (Some v ∷ bytes) e l = rw (lt_other step address n (omega arith)) (ap (λ l. poke_of step address v ∷ l) (cut_in step (address + 1) n k bytes (omega arith) (omega arith)))

-- asking for byte k of a word
pub has_in : (step address n k : ℕ) (bytes : List (Option ℕ)) → n ≡ address + k → has_poke step n (poked_from step address bytes) ≡ passes_at is_some bytes k
has_in step address n k [] e = refl
has_in step address n zero (None ∷ bytes) e = let f : n ≡ address = omega arith in rw f (any_none (is_poke_at step address) (poked_from step (address + 1) bytes) (rest_elsewhere step address bytes))
has_in step address n zero (Some v ∷ bytes) e = let f : n ≡ address = omega arith in rw (f, at_place step address) refl
has_in step address n (suc k) (None ∷ bytes) e = has_in step (address + 1) n k bytes (omega arith)
has_in step address n (suc k) (Some v ∷ bytes) e = rw (lt_other step address n (omega arith)) (has_in step (address + 1) n k bytes (omega arith))

-- the same among the bytes of other words

low_before : (s a step address n : ℕ) → place_before s a step address ≡ true → address ≤ n → place_before s a step n ≡ true
low_before s a step address n h l = grind (arith, nat_tests)

high_after : (s a step address n : ℕ) → place_before step (address + 3) s a ≡ true → n ≤ address + 3 → place_before step n s a ≡ true
high_after s a step address n h l = grind (arith, nat_tests)

low_elsewhere : (s a step address n : ℕ) → place_before s a step address ≡ true → address ≤ n → not (s == step && a == n) ≡ true
low_elsewhere s a step address n h l = grind (arith, nat_tests)

high_elsewhere : (s a step address n : ℕ) → place_before step (address + 3) s a ≡ true → n ≤ address + 3 → not (s == step && a == n) ≡ true
high_elsewhere s a step address n h l = grind (arith, nat_tests)

abbrev low : ℕ → ℕ → BytePoke → Bool
low step address p = place_before p.step p.address step address

abbrev high : ℕ → ℕ → BytePoke → Bool
high step address p = place_before step (address + 3) p.step p.address

pub put_whole : (step address n k value : ℕ) (bytes : List (Option ℕ)) (all pokes : List BytePoke) → pokes ≡ with_bytes step address bytes all → n ≡ address + k → k < length bytes → k < 4
    → put_poke (poke_of step n value) pokes ≡ with_bytes step address (set bytes k (Some value)) all
put_whole step address n k value bytes all pokes w e l m =
    let p = poke_of step n value in
    let before = each_map (λ y. low step address y ≡ true) (λ y. poke_before y p ≡ true) (λ y h. low_before y.step y.address step address n h (omega arith)) (filter (low step address) all) (each_passes (low step address) all) in
    let after = each_map (λ y. high step address y ≡ true) (λ y. poke_before p y ≡ true) (λ y h. high_after y.step y.address step address n h (omega arith)) (filter (high step address) all) (each_passes (high step address) all) in
    ap (put_poke p) w ∙ (placed_within poke_before (key_order (λ p. p.step) (λ p. p.address)) p (filter (low step address) all) (poked_from step address bytes) (filter (high step address) all) before after
    ∙ ap (λ l. filter (low step address) all ++ (l ++ filter (high step address) all)) (put_in step address n k value bytes e l))

pub cut_whole : (step address n k : ℕ) (bytes : List (Option ℕ)) (all pokes : List BytePoke) → pokes ≡ with_bytes step address bytes all → n ≡ address + k → k < length bytes → k < 4
    → cut_poke step n pokes ≡ with_bytes step address (set bytes k None) all
cut_whole step address n k bytes all pokes w e l m =
    let before = each_map (λ y. low step address y ≡ true) (λ y. not (is_poke_at step n y) ≡ true) (λ y h. low_elsewhere y.step y.address step address n h (omega arith)) (filter (low step address) all) (each_passes (low step address) all) in
    let after = each_map (λ y. high step address y ≡ true) (λ y. not (is_poke_at step n y) ≡ true) (λ y h. high_elsewhere y.step y.address step address n h (omega arith)) (filter (high step address) all) (each_passes (high step address) all) in
    ap (cut_poke step n) w ∙ (filter_within (λ y. not (is_poke_at step n y)) (filter (low step address) all) (poked_from step address bytes) (filter (high step address) all) before after
    ∙ ap (λ l. filter (low step address) all ++ (l ++ filter (high step address) all)) (cut_in step address n k bytes e l))

not_true : (b : Bool) → not b ≡ true → b ≡ false
not_true true e = absurd (cc)
not_true false e = refl

pub has_whole : (step address n k : ℕ) (bytes : List (Option ℕ)) (all : List BytePoke) → all ≡ with_bytes step address bytes all → n ≡ address + k → k < 4 → has_poke step n all ≡ passes_at is_some bytes k
has_whole step address n k bytes all w e m =
    let before = each_map (λ y. low step address y ≡ true) (λ y. is_poke_at step n y ≡ false) (λ y h. not_true (is_poke_at step n y) (low_elsewhere y.step y.address step address n h (omega arith))) (filter (low step address) all) (each_passes (low step address) all) in
    let after = each_map (λ y. high step address y ≡ true) (λ y. is_poke_at step n y ≡ false) (λ y h. not_true (is_poke_at step n y) (high_elsewhere y.step y.address step address n h (omega arith))) (filter (high step address) all) (each_passes (high step address) all) in
    let or_false : (b : Bool) → (b || false) ≡ b = λ b. elim b as (λ b. (b || false) ≡ b) [ true ↦ refl | false ↦ refl ] in
    ap (has_poke step n) w ∙ (list_any-append (is_poke_at step n) (filter (low step address) all) (poked_from step address bytes ++ filter (high step address) all)
    ∙ rw (any_none (is_poke_at step n) (filter (low step address) all) before, list_any-append (is_poke_at step n) (poked_from step address bytes) (filter (high step address) all), any_none (is_poke_at step n) (filter (high step address) all) after, or_false (has_poke step n (poked_from step address bytes)))
    (has_in step address n k bytes e))

-- what byte k of a word is poked with
find_skip : (p : BytePoke → Bool) (xs ys : List BytePoke) → Each (λ y. p y ≡ false) xs → find p (xs ++ ys) ≡ find p ys
find_skip p [] ys h = refl
find_skip p (x ∷ xs) ys h = rw h.0 (find_skip p xs ys h.1)

find_absent : (p : BytePoke → Bool) (xs : List BytePoke) → Each (λ y. p y ≡ false) xs → find p xs ≡ None
find_absent p [] h = refl
find_absent p (x ∷ xs) h = rw h.0 (find_absent p xs h.1)

value_in : (step address n k : ℕ) (bytes : List (Option ℕ)) (later : List BytePoke) → Each (λ y. is_poke_at step n y ≡ false) later → n ≡ address + k
    → poked_at step n (poked_from step address bytes ++ later) ≡ get_or bytes k None
value_in step address n k [] later h e = ap (option_map (λ (p : BytePoke). p.value)) (find_absent (is_poke_at step n) later h)
value_in step address n zero (None ∷ bytes) later h e =
    let f : n ≡ address = omega arith in
    let p : poked_at step n (poked_from step (address + 1) bytes ++ later) ≡ poked_at step n later = rw f (ap (option_map (λ (p : BytePoke). p.value)) (find_skip (is_poke_at step address) (poked_from step (address + 1) bytes) later (rest_elsewhere step address bytes))) in
    p ∙ ap (option_map (λ (p : BytePoke). p.value)) (find_absent (is_poke_at step n) later h)
value_in step address n zero (Some v ∷ bytes) later h e = let f : n ≡ address = omega arith in rw (f, at_place step address) refl
value_in step address n (suc k) (None ∷ bytes) later h e = value_in step (address + 1) n k bytes later h (omega arith)
value_in step address n (suc k) (Some v ∷ bytes) later h e = rw (lt_other step address n (omega arith)) (value_in step (address + 1) n k bytes later h (omega arith))

pub value_whole : (step address n k : ℕ) (bytes : List (Option ℕ)) (all : List BytePoke) → all ≡ with_bytes step address bytes all → n ≡ address + k → k < 4 → poked_at step n all ≡ get_or bytes k None
value_whole step address n k bytes all w e m =
    let before = each_map (λ y. low step address y ≡ true) (λ y. is_poke_at step n y ≡ false) (λ y h. not_true (is_poke_at step n y) (low_elsewhere y.step y.address step address n h (omega arith))) (filter (low step address) all) (each_passes (low step address) all) in
    let after = each_map (λ y. high step address y ≡ true) (λ y. is_poke_at step n y ≡ false) (λ y h. not_true (is_poke_at step n y) (high_elsewhere y.step y.address step address n h (omega arith))) (filter (high step address) all) (each_passes (high step address) all) in
    ap (poked_at step n) w ∙ (ap (option_map (λ (p : BytePoke). p.value)) (find_skip (is_poke_at step n) (filter (low step address) all) (poked_from step address bytes ++ filter (high step address) all) before)
    ∙ value_in step address n k bytes (filter (high step address) all) after e)

-- all four bytes of a word
pub put_four : (step address a b c d : ℕ) (bytes : List (Option ℕ)) (all : List BytePoke) → length bytes ≡ 4 → all ≡ with_bytes step address bytes all
    → put_poke (poke_of step (address + 3) d) (put_poke (poke_of step (address + 2) c) (put_poke (poke_of step (address + 1) b) (put_poke (poke_of step address a) all)))
    ≡ with_bytes step address (Some a ∷ Some b ∷ Some c ∷ Some d ∷ []) all
put_four step address a b c d (w ∷ x ∷ y ∷ z ∷ []) all l e =
    let f = put_whole step address address 0 a (w ∷ x ∷ y ∷ z ∷ []) all all e (omega arith) (omega arith) (omega arith) in
    let g = put_whole step address (address + 1) 1 b (Some a ∷ x ∷ y ∷ z ∷ []) all _ f refl (omega arith) (omega arith) in
    let h = put_whole step address (address + 2) 2 c (Some a ∷ Some b ∷ y ∷ z ∷ []) all _ g refl (omega arith) (omega arith) in
    put_whole step address (address + 3) 3 d (Some a ∷ Some b ∷ Some c ∷ z ∷ []) all _ h refl (omega arith) (omega arith)
put_four step address a b c d [] all l e = absurd (omega arith)
put_four step address a b c d (w ∷ []) all l e = absurd (omega arith)
put_four step address a b c d (w ∷ x ∷ []) all l e = absurd (omega arith)
put_four step address a b c d (w ∷ x ∷ y ∷ []) all l e = absurd (omega arith)
put_four step address a b c d (w ∷ x ∷ y ∷ z ∷ v ∷ bytes) all l e = absurd (omega arith)

pub cut_four : (step address : ℕ) (bytes : List (Option ℕ)) (all : List BytePoke) → length bytes ≡ 4 → all ≡ with_bytes step address bytes all
    → cut_poke step (address + 3) (cut_poke step (address + 2) (cut_poke step (address + 1) (cut_poke step address all))) ≡ with_bytes step address (None ∷ None ∷ None ∷ None ∷ []) all
cut_four step address (w ∷ x ∷ y ∷ z ∷ []) all l e =
    let f = cut_whole step address address 0 (w ∷ x ∷ y ∷ z ∷ []) all all e (omega arith) (omega arith) (omega arith) in
    let g = cut_whole step address (address + 1) 1 (None ∷ x ∷ y ∷ z ∷ []) all _ f refl (omega arith) (omega arith) in
    let h = cut_whole step address (address + 2) 2 (None ∷ None ∷ y ∷ z ∷ []) all _ g refl (omega arith) (omega arith) in
    cut_whole step address (address + 3) 3 (None ∷ None ∷ None ∷ z ∷ []) all _ h refl (omega arith) (omega arith)
cut_four step address [] all l e = absurd (omega arith)
cut_four step address (w ∷ []) all l e = absurd (omega arith)
cut_four step address (w ∷ x ∷ []) all l e = absurd (omega arith)
cut_four step address (w ∷ x ∷ y ∷ []) all l e = absurd (omega arith)
cut_four step address (w ∷ x ∷ y ∷ z ∷ v ∷ bytes) all l e = absurd (omega arith)

-- setting a byte pokes the word
pub set_is_poked : (bytes : List (Option ℕ)) (k value : ℕ) → k < length bytes → is_poked (set bytes k (Some value)) ≡ true
set_is_poked [] k value l = absurd (omega arith)
set_is_poked (b ∷ bytes) zero value l = refl
set_is_poked (b ∷ bytes) (suc k) value l = elim (is_some b) as (λ t. (t || is_poked (set bytes k (Some value))) ≡ true) [ true ↦ refl | false ↦ set_is_poked bytes k value (omega arith) ]
