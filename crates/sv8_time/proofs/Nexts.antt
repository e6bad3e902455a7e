-- The least step above one with an event of a kind.
use Rattle.std.proofs.Common.{◌≡◌, ◌∙◌, refl, sym, ap, subst, arith, ℕ, ◌+◌, ◌%◌, ◌<◌, ◌≤◌, Bool, true, false, cond, ◌&&◌, ◌||◌, nat_lt, ◌==◌, List, [], ◌∷◌, Option, Some, None, is_some, option_map, IfSome}
use Rattle.std.specs.List.{filter, find, list_any}
use Rattle.std.proofs.lemmas.Bool.{both_ways, eqb-false, ne_eqb}
use Rattle.std.proofs.lemmas.Bool.Decides.{nat_tests}
use Rattle.std.proofs.lemmas.List.Folds.{list_any-append}
use Rattle.sv8_time.specs.declared.words.WordPoke.{WordPoke}
use Rattle.sv8_time.specs.declared.words.ByAddress.{ByAddress}
use Rattle.sv8_time.specs.declared.requests.Request.{Request}
use Rattle.sv8_time.specs.Order.{Rising, place_before, passes_at, of_major_behind, behind_major}
use Rattle.sv8_time.specs.Schedule.{BytePoke, poke_before, is_poke_at, has_poke, poke_after, word_of, request_before, request_after, IsNext, IsNextPoke, IsNextRequest}
use Rattle.sv8_time.specs.Words.{poked_bytes, bytes_of_words, is_word_at, by_address_before, is_by_address_at, SameWords}
use Rattle.sv8_time.proofs.Parts.{each_map, any_none}
use Rattle.sv8_time.proofs.Splits.{find_within}
use Rattle.sv8_time.proofs.BytePlaces.{poked_each, has_in}
use Rattle.sv8_time.proofs.WordPlaces.{any_map}

-- the first element of the right kind behind a step is the next one, where elements of that kind do not fall in step

wanted_is : (s after : ℕ) (b : Bool) → (b && nat_lt after s) ≡ true → (after < s) × ((s == s && b) ≡ true)
wanted_is s after true h = (grind (arith, nat_tests), grind (arith, nat_tests))
wanted_is s after false h = absurd (cc)

not_wanted : (s after n : ℕ) (b : Bool) → (b && nat_lt after s) ≡ false → after < n → (s == n && b) ≡ false
not_wanted s after n true h l = grind (arith, nat_tests)
not_wanted s after n false h l = grind (arith, nat_tests)

differs : (s n : ℕ) (b : Bool) → n < s → (s == n && b) ≡ false
differs s n b l = grind (arith, nat_tests)

wanted_kind : (b c : Bool) → (b && c) ≡ true → b ≡ true
wanted_kind true c h = refl
wanted_kind false c h = absurd (cc)

later_differs : (s t n : ℕ) (b : Bool) → (b ≡ true → s ≤ t) → n < s → (t == n && b) ≡ false
later_differs s t n true f l = let g = f refl in grind (arith, nat_tests)
later_differs s t n false f l = grind (arith, nat_tests)

or_last : (b : Bool) → (b || true) ≡ true
or_last true = refl
or_last false = refl

pub next_is : {X : Type 0} (before : X → X → Bool) (step : X → ℕ) (kind : X → Bool) → ((x y : X) → before x y ≡ true → kind x ≡ true → kind y ≡ true → step x ≤ step y) → (after : ℕ) (xs : List X) → Rising before xs
    → IsNext (λ n. list_any (λ x. step x == n && kind x) xs) after (option_map step (find (λ x. kind x && nat_lt after (step x)) xs))
next_is before step kind f after [] h = λ n l. refl
next_is {X = X} before step kind f after (x ∷ xs) h = go (kind x && nat_lt after (step x)) refl (find (λ y. kind y && nat_lt after (step y)) xs) (next_is before step kind f after xs h.1)
  where
    go : (b : Bool) → (kind x && nat_lt after (step x)) ≡ b → (o : Option X) → IsNext (λ n. list_any (λ y. step y == n && kind y) xs) after (option_map step o)
        → IsNext (λ n. list_any (λ y. step y == n && kind y) (x ∷ xs)) after (option_map step (cond b (Some x) o))
    go true e o r =
        let t = wanted_is (step x) after (kind x) e in (
          t.0,
          rw t.1 refl,
          λ n l m. rw (differs (step x) n (kind x) m)
              (any_none (λ y. step y == n && kind y) xs (each_map (λ y. before x y ≡ true) (λ y. (step y == n && kind y) ≡ false) (λ y g. later_differs (step x) (step y) n (kind y) (λ k. f x y g (wanted_kind (kind x) (nat_lt after (step x)) e) k) m) xs h.0)),
        )
    go false e None r = λ n l. rw (not_wanted (step x) after n (kind x) e l) (r n l)
    go false e (Some p) r = (r.0, rw r.1 (or_last (step x == step p && kind x)), λ n l m. rw (not_wanted (step x) after n (kind x) e l) (r.2 n l m))

-- the next step is one alone
pub next_alone : (has : ℕ → Bool) (after : ℕ) (a b : Option ℕ) → IsNext has after a → IsNext has after b → a ≡ b
next_alone has after None None h k = refl
next_alone has after None (Some n) h k = absurd (both_ways (has n) (h n k.0) k.1)
next_alone has after (Some m) None h k = absurd (both_ways (has m) (k m h.0) h.1)
next_alone has after (Some m) (Some n) h k = ap Some (go (nat_lt m n) refl (nat_lt n m) refl)
  where
    go : (a : Bool) → nat_lt m n ≡ a → (b : Bool) → nat_lt n m ≡ b → m ≡ n
    go true e b f = absurd (both_ways (has m) (k.2 m h.0 (grind (arith, nat_tests))) h.1)
    go false e true f = absurd (both_ways (has n) (h.2 n k.0 (grind (arith, nat_tests))) k.1)
    go false e false f = grind (arith, nat_tests)

pub next_same : (has other : ℕ → Bool) (after : ℕ) (o : Option ℕ) → ((n : ℕ) → has n ≡ other n) → IsNext other after o → IsNext has after o
next_same has other after None f h = λ n l. f n ∙ h n l
next_same has other after (Some m) f h = (h.0, f m ∙ h.1, λ n l k. f n ∙ h.2 n l k)

pub next_bound : (has : ℕ → Bool) (after : ℕ) (o : Option ℕ) → ((n : ℕ) → has n ≡ true → n ≤ 1000000) → IsNext has after o → IfSome o (λ n. n ≤ 1000000)
next_bound has after None f h = tt
next_bound has after (Some m) f h = f m h.1

-- requests

step_le : (a b c d : ℕ) → place_before a b c d ≡ true → a ≤ c
step_le a b c d h = grind (arith, nat_tests)

pub next_request_is : (level after : ℕ) (requests : List Request) → Rising request_before requests → IsNextRequest level after requests (request_after level after requests)
next_request_is level after requests h = next_is request_before (λ r. r.step) (λ r. r.level == level) (λ x y b e f. step_le x.step x.level y.step y.level b) after requests h

and_swap : (a b : Bool) → cond a b false ≡ (b && a)
and_swap true true = refl
and_swap true false = refl
and_swap false true = refl
and_swap false false = refl

find_same : {X : Type 0} (p q : X → Bool) → ((x : X) → p x ≡ q x) → (xs : List X) → find p xs ≡ find q xs
find_same p q f [] = refl
find_same p q f (x ∷ xs) = rw (f x, find_same p q f xs) refl

pub request_found : (level after : ℕ) (requests : List Request) → option_map (λ r. r.step) (find (λ r. r.level == level) (behind_major (λ r. r.step) after requests)) ≡ request_after level after requests
request_found level after requests =
    ap (option_map (λ r. r.step)) (find_within (λ r. r.level == level) (λ r. nat_lt after r.step) requests ∙ find_same (λ r. cond (nat_lt after r.step) (r.level == level) false) (λ r. r.level == level && nat_lt after r.step) (λ r. and_swap (nat_lt after r.step) (r.level == level)) requests)

-- poked bytes

pub next_poke_is : (address after : ℕ) (pokes : List BytePoke) → Rising poke_before pokes → IsNextPoke address after pokes (poke_after address after pokes)
next_poke_is address after pokes h = next_is poke_before (λ p. p.step) (λ p. p.address == address) (λ x y b e f. step_le x.step x.address y.step y.address b) after pokes h

-- a byte is poked where its word has it
first_false : (p q : Bool) → (p && true) ≡ false → (p && q) ≡ false
first_false true q h = absurd (cc)
first_false false q h = refl

last_false : (p q : Bool) → q ≡ false → (p && q) ≡ false
last_false true q h = h
last_false false q h = refl

other_byte : (s a k n b : ℕ) → a % 4 ≡ 0 → k < 4 → (s == n && a == word_of b) ≡ false → (s == n && a + k == b) ≡ false
other_byte s a k n b e l h = go (a == word_of b) refl
  where
    go : (t : Bool) → (a == word_of b) ≡ t → (s == n && a + k == b) ≡ false
    go true f = let g : (s == n && true) ≡ false = rw f at h in first_false (s == n) (a + k == b) g
    go false f = last_false (s == n) (a + k == b) (ne_eqb (a + k) b (λ m. eqb-false a (word_of b) f (omega arith)))

place_of : (s a n b : ℕ) → (s == n && a == b) ≡ true → (s ≡ n) × (a ≡ b)
place_of s a n b h = (grind (arith, nat_tests), grind (arith, nat_tests))

poked_in : (n address : ℕ) (w : WordPoke) → has_poke n address (poked_bytes w) ≡ cond (is_word_at n (word_of address) w) (passes_at is_some w.bytes (address % 4)) false
poked_in n address w = go (is_word_at n (word_of address) w) refl
  where
    go : (b : Bool) → is_word_at n (word_of address) w ≡ b → has_poke n address (poked_bytes w) ≡ cond b (passes_at is_some w.bytes (address % 4)) false
    go true e = let p = place_of w.step w.address n (word_of address) e in rw (sym p.0) (has_in w.step w.address address (address % 4) w.bytes (let q = p.1 in omega arith))
    go false e = any_none (is_poke_at n address) (poked_bytes w) (poked_each (λ y. is_poke_at n address y ≡ false) w.step w.address w.bytes (λ k v l. other_byte w.step w.address k n address w.aligned (omega (arith, w.full)) e))

pub poked_any : (n address : ℕ) (words : List WordPoke) → has_poke n address (bytes_of_words words) ≡ list_any (λ w. passes_at is_some w.bytes (address % 4)) (filter (is_word_at n (word_of address)) words)
poked_any n address [] = refl
poked_any n address (w ∷ words) =
    list_any-append (is_poke_at n address) (poked_bytes w) (bytes_of_words words) ∙ rw (poked_in n address w, poked_any n address words) (go (is_word_at n (word_of address) w) refl)
  where
    go : (b : Bool) → is_word_at n (word_of address) w ≡ b
        → (cond (is_word_at n (word_of address) w) (passes_at is_some w.bytes (address % 4)) false || list_any (λ w. passes_at is_some w.bytes (address % 4)) (filter (is_word_at n (word_of address)) words))
        ≡ list_any (λ w. passes_at is_some w.bytes (address % 4)) (filter (is_word_at n (word_of address)) (w ∷ words))
    go true e = rw e refl
    go false e = rw e refl

any_within : {X : Type 0} (p q : X → Bool) (xs : List X) → list_any p (filter q xs) ≡ list_any (λ x. q x && p x) xs
any_within p q [] = refl
any_within p q (x ∷ xs) = go (any_within p q xs) (q x) refl
  where
    go : list_any p (filter q xs) ≡ list_any (λ x. q x && p x) xs → (b : Bool) → q x ≡ b → list_any p (filter q (x ∷ xs)) ≡ list_any (λ x. q x && p x) (x ∷ xs)
    go ih true e = rw (e, ih) refl
    go ih false e = rw (e, ih) refl

any_same : {X : Type 0} (p q : X → Bool) → ((x : X) → p x ≡ q x) → (xs : List X) → list_any p xs ≡ list_any q xs
any_same p q f [] = refl
any_same p q f (x ∷ xs) = rw (f x, any_same p q f xs) refl

and_turn : (a b c : Bool) → ((a && b) && c) ≡ (b && (a && c))
and_turn true true c = refl
and_turn true false c = refl
and_turn false true c = refl
and_turn false false c = refl

-- the same in the order of addresses
poked_by_address : (n address : ℕ) (words : List WordPoke) (by_address : List ByAddress) → SameWords words by_address
    → has_poke n address (bytes_of_words words) ≡ list_any (λ b. b.word.step == n && (b.word.address == word_of address && passes_at is_some b.word.bytes (address % 4))) by_address
poked_by_address n address words by_address h =
    poked_any n address words ∙ (ap (list_any (λ w. passes_at is_some w.bytes (address % 4))) (h.same n (word_of address))
    ∙ (any_map (λ w. passes_at is_some w.bytes (address % 4)) (λ b. b.word) (filter (is_by_address_at (word_of address) n) by_address)
    ∙ (any_within (λ b. passes_at is_some b.word.bytes (address % 4)) (is_by_address_at (word_of address) n) by_address
    ∙ any_same (λ b. is_by_address_at (word_of address) n b && passes_at is_some b.word.bytes (address % 4)) (λ b. b.word.step == n && (b.word.address == word_of address && passes_at is_some b.word.bytes (address % 4)))
    (λ b. and_turn (b.word.address == word_of address) (b.word.step == n) (passes_at is_some b.word.bytes (address % 4))) by_address)))

later_step : (a b c d k : ℕ) (p q : Bool) → place_before a b c d ≡ true → (a == k && p) ≡ true → (c == k && q) ≡ true → b ≤ d
later_step a b c d k true true h e f = grind (arith, nat_tests)
later_step a b c d k false q h e f = grind (arith, nat_tests)
later_step a b c d k true false h e f = grind (arith, nat_tests)

and_thrice : (a b c : Bool) → cond (a && b) c false ≡ ((a && c) && b)
and_thrice true true true = refl
and_thrice true true false = refl
and_thrice true false true = refl
and_thrice true false false = refl
and_thrice false true true = refl
and_thrice false true false = refl
and_thrice false false true = refl
and_thrice false false false = refl

pub next_found : (address after : ℕ) (words : List WordPoke) (by_address : List ByAddress) → SameWords words by_address
    → IsNextPoke address after (bytes_of_words words)
    (option_map (λ b. b.word.step) (find (λ b. passes_at is_some b.word.bytes (address % 4)) (of_major_behind (λ b. b.word.address) (λ b. b.word.step) (word_of address) after by_address)))
next_found address after words by_address h =
    let kind : ByAddress → Bool = λ b. b.word.address == word_of address && passes_at is_some b.word.bytes (address % 4) in
    next_same (λ n. has_poke n address (bytes_of_words words)) (λ n. list_any (λ b. b.word.step == n && (b.word.address == word_of address && passes_at is_some b.word.bytes (address % 4))) by_address) after _ (λ n. poked_by_address n address words by_address h)
    (subst (λ o. IsNext (λ n. list_any (λ b. b.word.step == n && (b.word.address == word_of address && passes_at is_some b.word.bytes (address % 4))) by_address) after (option_map (λ b. b.word.step) o))
    (sym (find_within (λ b. passes_at is_some b.word.bytes (address % 4)) (λ b. b.word.address == word_of address && nat_lt after b.word.step) by_address
    ∙ find_same (λ b. cond (b.word.address == word_of address && nat_lt after b.word.step) (passes_at is_some b.word.bytes (address % 4)) false) (λ b. (b.word.address == word_of address && passes_at is_some b.word.bytes (address % 4)) && nat_lt after b.word.step)
    (λ b. and_thrice (b.word.address == word_of address) (nat_lt after b.word.step) (passes_at is_some b.word.bytes (address % 4))) by_address))
    (next_is by_address_before (λ b. b.word.step) (λ b. b.word.address == word_of address && passes_at is_some b.word.bytes (address % 4))
    (λ x y b e f. later_step x.word.address x.word.step y.word.address y.word.step (word_of address) (passes_at is_some x.word.bytes (address % 4)) (passes_at is_some y.word.bytes (address % 4)) b e f) after by_address h.rising_by_address))
