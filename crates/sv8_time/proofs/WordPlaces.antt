-- Words with poked bytes, and the poked bytes of all of them.
use Rattle.std.proofs.Common.{◌≡◌, ◌∙◌, refl, sym, ap, subst, arith, ℕ, zero, suc, ◌+◌, ◌%◌, ◌<◌, Bool, true, false, not, cond, ◌&&◌, ◌||◌, nat_lt, ◌==◌, List, [], ◌∷◌, ◌++◌, length, map, slice_get, Option, Some, None}
use Rattle.std.specs.List.{filter, list_any}
use Rattle.std.specs.Option.{option_to_list, unwrap_or}
use Rattle.std.proofs.lemmas.Bool.{ltb-true, ltb-false, lt-ltb, le-ltb}
use Rattle.std.proofs.lemmas.Bool.Decides.{nat_tests}
use Rattle.std.proofs.lemmas.Grind.{flat_map-append}
use Rattle.std.proofs.lemmas.List.{append-nil}
use Rattle.std.proofs.lemmas.List.Elements.{filter-append}
use Rattle.std.proofs.lemmas.List.Folds.{list_any-append}
use Rattle.sv8_time.specs.declared.words.WordPoke.{WordPoke}
use Rattle.sv8_time.specs.declared.words.ByAddress.{ByAddress}
use Rattle.sv8_time.specs.Order.{Each, Rising, place_before, placed, of_major}
use Rattle.sv8_time.specs.Schedule.{BytePoke, poke_of, has_word, word_of, word_count, is_poke_in, pokes_of_step}
use Rattle.sv8_time.specs.Words.{poked_from, poked_bytes, bytes_of_words, is_poked, word_before, is_word_at, by_address_before, is_by_address_at, SameWords, IsWordIn, with_bytes}
use Rattle.sv8_time.proofs.Orders.{key_order}
use Rattle.sv8_time.proofs.KeyPlaces.{same_place}
use Rattle.sv8_time.proofs.Parts.{each_map, each_passes, each_placed, each_filter, filter_all, filter_none, any_none, rising_placed, rising_filter}
use Rattle.sv8_time.proofs.Places.{IsSame}
use Rattle.sv8_time.proofs.Splits.{split, rest_is, placed_there, placed_elsewhere, dropped_there, dropped_elsewhere}
use Rattle.sv8_time.proofs.BytePlaces.{poked_each}

-- the bytes of a word come before another word, or behind it, as the word does

lt_word : (a k b : ℕ) → a % 4 ≡ 0 → b % 4 ≡ 0 → k < 4 → nat_lt (a + k) b ≡ nat_lt a b
lt_word a k b e f l = go (nat_lt a b) refl
  where
    go : (t : Bool) → nat_lt a b ≡ t → nat_lt (a + k) b ≡ t
    go true h = lt-ltb (a + k) b (omega (arith, ltb-true a b h))
    go false h = le-ltb (a + k) b (omega (arith, ltb-false a b h))

lt_byte : (a k b : ℕ) → a % 4 ≡ 0 → b % 4 ≡ 0 → k < 4 → nat_lt (b + 3) (a + k) ≡ nat_lt b a
lt_byte a k b e f l = go (nat_lt b a) refl
  where
    go : (t : Bool) → nat_lt b a ≡ t → nat_lt (b + 3) (a + k) ≡ t
    go true h = lt-ltb (b + 3) (a + k) (omega (arith, ltb-true b a h))
    go false h = le-ltb (b + 3) (a + k) (omega (arith, ltb-false b a h))

low_word : (s a k step address : ℕ) → a % 4 ≡ 0 → address % 4 ≡ 0 → k < 4 → place_before s (a + k) step address ≡ place_before s a step address
low_word s a k step address e f l = rw (lt_word a k address e f l) refl

high_word : (s a k step address : ℕ) → a % 4 ≡ 0 → address % 4 ≡ 0 → k < 4 → place_before step (address + 3) s (a + k) ≡ place_before step address s a
high_word s a k step address e f l = rw (lt_byte a k address e f l) refl

-- a part of the bytes by a test that does not tell the bytes of a word apart
filter_words : (p : BytePoke → Bool) (q : WordPoke → Bool) → ((w : WordPoke) (k value : ℕ) → k < 4 → p (poke_of w.step (w.address + k) value) ≡ q w) → (words : List WordPoke) → filter p (bytes_of_words words) ≡ bytes_of_words (filter q words)
filter_words p q f [] = refl
filter_words p q f (w ∷ words) = filter-append p (poked_bytes w) (bytes_of_words words) ∙ go (filter_words p q f words) (q w) refl
  where
    go : filter p (bytes_of_words words) ≡ bytes_of_words (filter q words) → (b : Bool) → q w ≡ b → filter p (poked_bytes w) ++ filter p (bytes_of_words words) ≡ bytes_of_words (filter q (w ∷ words))
    go ih true e = rw (e, ih, filter_all p (poked_bytes w) (poked_each (λ y. p y ≡ true) w.step w.address w.bytes (λ k v l. f w k v (omega (arith, w.full)) ∙ e))) refl
    go ih false e = rw (e, ih, filter_none p (poked_bytes w) (poked_each (λ y. p y ≡ false) w.step w.address w.bytes (λ k v l. f w k v (omega (arith, w.full)) ∙ e))) refl

low_words : (step address : ℕ) → address % 4 ≡ 0 → (words : List WordPoke) → filter (λ p. place_before p.step p.address step address) (bytes_of_words words) ≡ bytes_of_words (filter (λ w. place_before w.step w.address step address) words)
low_words step address e words = filter_words (λ p. place_before p.step p.address step address) (λ w. place_before w.step w.address step address) (λ w k v l. low_word w.step w.address k step address w.aligned e l) words

high_words : (step address : ℕ) → address % 4 ≡ 0 → (words : List WordPoke) → filter (λ p. place_before step (address + 3) p.step p.address) (bytes_of_words words) ≡ bytes_of_words (filter (λ w. place_before step address w.step w.address) words)
high_words step address e words = filter_words (λ p. place_before step (address + 3) p.step p.address) (λ w. place_before step address w.step w.address) (λ w k v l. high_word w.step w.address k step address w.aligned e l) words

pub bytes_of_step : (step : ℕ) (words : List WordPoke) → bytes_of_words (of_major (λ w. w.step) step words) ≡ pokes_of_step step (bytes_of_words words)
bytes_of_step step words = sym (filter_words (λ p. p.step == step) (λ w. w.step == step) (λ w k v l. refl) words)

-- a word that is placed
pub store_words : (x : WordPoke) (words : List WordPoke) → bytes_of_words (placed word_before x words) ≡ with_bytes x.step x.address x.bytes (bytes_of_words words)
store_words x words = flat_map-append poked_bytes (filter (λ w. word_before w x) words) (x ∷ filter (λ w. word_before x w) words) ∙ rw (low_words x.step x.address x.aligned words, high_words x.step x.address x.aligned words) refl

same_word : (k : WordPoke) → IsSame word_before (is_word_at k.step k.address) k
same_word k = λ y. same_place y.step y.address k.step k.address

same_by_address : (b : ByAddress) → IsSame by_address_before (is_by_address_at b.word.address b.word.step) b
same_by_address b = λ y. same_place y.word.address y.word.step b.word.address b.word.step

none_poked : (step address : ℕ) (bytes : List (Option ℕ)) → is_poked bytes ≡ false → poked_from step address bytes ≡ []
none_poked step address [] e = refl
none_poked step address (None ∷ bytes) e = none_poked step (address + 1) bytes e
none_poked step address (Some v ∷ bytes) e = absurd (cc)

place_parts : (a b c d : ℕ) → (a == c && b == d) ≡ true → (a ≡ c) × (b ≡ d)
place_parts a b c d e = (grind (arith, nat_tests), grind (arith, nat_tests))

pub at_word : (step address : ℕ) (w : WordPoke) → is_word_at step address w ≡ true → (w.step ≡ step) × (w.address ≡ address)
at_word step address w e = place_parts w.step w.address step address e

-- the word at a place, or one without poked bytes
pub word_found : (k : WordPoke) (words : List WordPoke) (o : Option WordPoke) → option_to_list o ≡ filter (is_word_at k.step k.address) words → ((unwrap_or o k).step ≡ k.step) × ((unwrap_or o k).address ≡ k.address)
word_found k words None e = (refl, refl)
word_found k words (Some w) e =
    let h : Each (λ y. is_word_at k.step k.address y ≡ true) (w ∷ []) = subst (λ l. Each (λ y. is_word_at k.step k.address y ≡ true) l) (sym e) (each_passes (is_word_at k.step k.address) words) in
    at_word k.step k.address w h.0

found_bytes : (k : WordPoke) (words : List WordPoke) (o : Option WordPoke) → option_to_list o ≡ filter (is_word_at k.step k.address) words → is_poked k.bytes ≡ false → bytes_of_words (option_to_list o) ≡ poked_from k.step k.address (unwrap_or o k).bytes
found_bytes k words None e f = sym (none_poked k.step k.address k.bytes f)
found_bytes k words (Some w) e f = let h = word_found k words (Some w) e in append-nil (poked_bytes w) ∙ rw (h.0, h.1) refl

pub word_whole : (k : WordPoke) (words : List WordPoke) (o : Option WordPoke) → Rising word_before words → option_to_list o ≡ filter (is_word_at k.step k.address) words → is_poked k.bytes ≡ false
    → bytes_of_words words ≡ with_bytes k.step k.address (unwrap_or o k).bytes (bytes_of_words words)
word_whole k words o h e f =
    let low = filter (λ w. word_before w k) words in
    let high = filter (λ w. word_before k w) words in
    ap bytes_of_words (split word_before (is_word_at k.step k.address) k (key_order (λ w. w.step) (λ w. w.address)) (same_word k) words h)
    ∙ (flat_map-append poked_bytes low (filter (is_word_at k.step k.address) words ++ high)
    ∙ rw (flat_map-append poked_bytes (filter (is_word_at k.step k.address) words) high, sym e, found_bytes k words o e f, low_words k.step k.address k.aligned words, high_words k.step k.address k.aligned words) refl)

-- a word that is dropped
pub cut_words : (k : WordPoke) (words : List WordPoke) → Rising word_before words → is_poked k.bytes ≡ false → bytes_of_words (filter (λ w. not (is_word_at k.step k.address w)) words) ≡ with_bytes k.step k.address k.bytes (bytes_of_words words)
cut_words k words h f =
    ap bytes_of_words (rest_is word_before (is_word_at k.step k.address) k (key_order (λ w. w.step) (λ w. w.address)) (same_word k) words h)
    ∙ (flat_map-append poked_bytes (filter (λ w. word_before w k) words) (filter (λ w. word_before k w) words)
    ∙ rw (none_poked k.step k.address k.bytes f, low_words k.step k.address k.aligned words, high_words k.step k.address k.aligned words) refl)

-- counting words

in_word : (a k : ℕ) → a % 4 ≡ 0 → k < 4 → word_of (a + k) ≡ a
in_word a k e l = omega arith

pub word_of_aligned : (a : ℕ) → a % 4 ≡ 0 → word_of a ≡ a
word_of_aligned a e = omega arith

at_itself : (s a : ℕ) → (s == s && a == a) ≡ true
at_itself s a = grind (arith, nat_tests)

-- of the bytes of a word all are in it, if any is poked
any_poked : (p : BytePoke → Bool) (step address : ℕ) (bytes : List (Option ℕ)) → Each (λ y. p y ≡ true) (poked_from step address bytes) → list_any p (poked_from step address bytes) ≡ is_poked bytes
any_poked p step address [] h = refl
any_poked p step address (None ∷ bytes) h = any_poked p step (address + 1) bytes h
any_poked p step address (Some v ∷ bytes) h = rw h.0 refl

in_of : (s a k step address : ℕ) → a % 4 ≡ 0 → k < 4 → (s == step && word_of (a + k) == word_of address) ≡ (s == step && a == word_of address)
in_of s a k step address e l = rw (in_word a k e l) refl

or_id : (b : Bool) → (b || false) ≡ b
or_id true = refl
or_id false = refl

-- a word has a poked byte among all where it has an entry
pub has_words : (step address : ℕ) (words : List WordPoke) → Each (λ w. is_poked w.bytes ≡ true) words → has_word step address (bytes_of_words words) ≡ list_any (is_word_at step (word_of address)) words
has_words step address [] h = refl
has_words step address (w ∷ words) h = list_any-append (is_poke_in step address) (poked_bytes w) (bytes_of_words words) ∙ rw (has_words step address words h.1) (go (is_word_at step (word_of address) w) refl)
  where
    go : (b : Bool) → is_word_at step (word_of address) w ≡ b → (list_any (is_poke_in step address) (poked_bytes w) || list_any (is_word_at step (word_of address)) words) ≡ (is_word_at step (word_of address) w || list_any (is_word_at step (word_of address)) words)
    go true e = rw (e, any_poked (is_poke_in step address) w.step w.address w.bytes (poked_each (λ y. is_poke_in step address y ≡ true) w.step w.address w.bytes (λ k v l. in_of w.step w.address k step address w.aligned (omega (arith, w.full)) ∙ e)), h.0) refl
    go false e = rw (e, any_none (is_poke_in step address) (poked_bytes w) (poked_each (λ y. is_poke_in step address y ≡ false) w.step w.address w.bytes (λ k v l. in_of w.step w.address k step address w.aligned (omega (arith, w.full)) ∙ e))) refl

-- the poked bytes of a word count as one, in front of others
count_word : (step address a : ℕ) (bytes : List (Option ℕ)) (rest : List BytePoke) → ((k : ℕ) → k < length bytes → word_of (address + k) ≡ a) → a % 4 ≡ 0 → has_word step a rest ≡ false
    → word_count (poked_from step address bytes ++ rest) ≡ cond (is_poked bytes) (word_count rest + 1) (word_count rest)
count_word step address a [] rest f e h = refl
count_word step address a (None ∷ bytes) rest f e h = count_word step (address + 1) a bytes rest (λ k l. let g = f (suc k) (omega arith) in let m : address + suc k ≡ address + 1 + k = omega arith in subst (λ n. word_of n ≡ a) m g) e h
count_word step address a (Some v ∷ bytes) rest f e h =
    let below : (k : ℕ) → k < length bytes → word_of (address + 1 + k) ≡ a = λ k l. let g = f (suc k) (omega arith) in let m : address + suc k ≡ address + 1 + k = omega arith in subst (λ n. word_of n ≡ a) m g in
    let zero_is : address + 0 ≡ address = omega arith in
    let first : word_of address ≡ a = subst (λ n. word_of n ≡ a) zero_is (f 0 (omega arith)) in
    let aligned : word_of a ≡ a = word_of_aligned a e in
    let here : has_word step address (poked_from step (address + 1) bytes ++ rest) ≡ is_poked bytes =
    list_any-append (is_poke_in step address) (poked_from step (address + 1) bytes) rest
    ∙ (rw (any_poked (is_poke_in step address) step (address + 1) bytes (poked_each (λ y. is_poke_in step address y ≡ true) step (address + 1) bytes (λ k v l. rw (below k l, first) (at_itself step a))), has_first first aligned)
    (or_id (is_poked bytes))) in
    rw here (go (is_poked bytes) (count_word step (address + 1) a bytes rest below e h))
  where
    has_first : word_of address ≡ a → word_of a ≡ a → has_word step address rest ≡ false
    has_first p q = subst (λ n. list_any (λ y. y.step == step && word_of y.address == n) rest ≡ false) (q ∙ sym p) h

    go : (b : Bool) → word_count (poked_from step (address + 1) bytes ++ rest) ≡ cond b (word_count rest + 1) (word_count rest)
        → cond b (word_count (poked_from step (address + 1) bytes ++ rest)) (word_count (poked_from step (address + 1) bytes ++ rest) + 1) ≡ word_count rest + 1
    go true ih = ih
    go false ih = rw ih refl

later_word : (a b c d : ℕ) → place_before a b c d ≡ true → (c == a && d == b) ≡ false
later_word a b c d h = grind (arith, nat_tests)

pub count_words : (words : List WordPoke) → Rising word_before words → Each (λ w. is_poked w.bytes ≡ true) words → word_count (bytes_of_words words) ≡ length words
count_words [] h k = refl
count_words (w ∷ words) h k =
    let apart : has_word w.step w.address (bytes_of_words words) ≡ false =
    has_words w.step w.address words k.1 ∙ rw (word_of_aligned w.address w.aligned)
    (any_none (is_word_at w.step w.address) words (each_map (λ y. word_before w y ≡ true) (λ y. is_word_at w.step w.address y ≡ false) (λ y e. later_word w.step w.address y.step y.address e) words h.0)) in
    let n = count_word w.step w.address w.address w.bytes (bytes_of_words words) (λ k l. in_word w.address k w.aligned (omega (arith, w.full))) w.aligned apart in
    n ∙ rw (k.0, count_words words h.1 k.1) (omega arith)

-- both orders hold the same words

abbrev pub keyed_by_address : WordPoke → ByAddress
keyed_by_address x = record { word = x }

place_eq : (x : WordPoke) (step address : ℕ) → (x.step == step && x.address == address) ≡ (x.address == address && x.step == step)
place_eq x step address = grind (arith, nat_tests)

-- two places differ, so what is at one is not at the other
apart : (a b c d s t : ℕ) → (a == c && b == d) ≡ false → (s == a && t == b) ≡ true → (s == c && t == d) ≡ false
apart a b c d s t e f = grind (arith, nat_tests)

pub same_placed : (x : WordPoke) (words : List WordPoke) (by_address : List ByAddress) → is_poked x.bytes ≡ true → SameWords words by_address → SameWords (placed word_before x words) (placed by_address_before (keyed_by_address x) by_address)
same_placed x words by_address e h = record {
  rising = rising_placed word_before (key_order (λ w. w.step) (λ w. w.address)) x words h.rising;
  rising_by_address = rising_placed by_address_before (key_order (λ b. b.word.address) (λ b. b.word.step)) (keyed_by_address x) by_address h.rising_by_address;
  poked = each_placed (λ w. is_poked w.bytes ≡ true) word_before x words e h.poked;
  same = λ step address. go step address (is_word_at step address x) refl;
}
  where
    go : (step address : ℕ) (b : Bool) → is_word_at step address x ≡ b → filter (is_word_at step address) (placed word_before x words) ≡ map (λ b. b.word) (filter (is_by_address_at address step) (placed by_address_before (keyed_by_address x) by_address))
    go step address true e =
        let p = at_word step address x e in
        let f : filter (is_word_at x.step x.address) (placed word_before x words) ≡ x ∷ [] = placed_there word_before (is_word_at x.step x.address) x (same_word x) (at_itself x.step x.address) words in
        let g : filter (is_by_address_at x.address x.step) (placed by_address_before (keyed_by_address x) by_address) ≡ keyed_by_address x ∷ [] = placed_there by_address_before (is_by_address_at x.address x.step) (keyed_by_address x) (same_by_address (keyed_by_address x)) (at_itself x.address x.step) by_address in
        rw (sym p.0, sym p.1) (f ∙ rw g refl)
    go step address false e =
        rw (
          placed_elsewhere word_before (is_word_at x.step x.address) (is_word_at step address) x (key_order (λ w. w.step) (λ w. w.address)) (same_word x) (λ y f. apart x.step x.address step address y.step y.address e f) e words h.rising,
          placed_elsewhere by_address_before (is_by_address_at x.address x.step) (is_by_address_at address step) (keyed_by_address x) (key_order (λ b. b.word.address) (λ b. b.word.step)) (same_by_address (keyed_by_address x)) (λ y f. apart x.address x.step address step y.word.address y.word.step (sym (place_eq x step address) ∙ e) f) (sym (place_eq x step address) ∙ e) by_address h.rising_by_address,
        )
        (h.same step address)

pub same_cut : (x : WordPoke) (words : List WordPoke) (by_address : List ByAddress) → SameWords words by_address → SameWords (filter (λ w. not (is_word_at x.step x.address w)) words) (filter (λ b. not (is_by_address_at x.address x.step b)) by_address)
same_cut x words by_address h = record {
  rising = rising_filter word_before (λ w. not (is_word_at x.step x.address w)) words h.rising;
  rising_by_address = rising_filter by_address_before (λ b. not (is_by_address_at x.address x.step b)) by_address h.rising_by_address;
  poked = each_filter (λ w. is_poked w.bytes ≡ true) (λ w. not (is_word_at x.step x.address w)) words h.poked;
  same = λ step address. go step address (is_word_at step address x) refl;
}
  where
    go : (step address : ℕ) (b : Bool) → is_word_at step address x ≡ b → filter (is_word_at step address) (filter (λ w. not (is_word_at x.step x.address w)) words) ≡ map (λ b. b.word) (filter (is_by_address_at address step) (filter (λ b. not (is_by_address_at x.address x.step b)) by_address))
    go step address true e =
        let p = at_word step address x e in
        rw (sym p.0, sym p.1, dropped_there (is_word_at x.step x.address) words, dropped_there (is_by_address_at x.address x.step) by_address) refl
    go step address false e =
        rw (
          dropped_elsewhere (is_word_at x.step x.address) (is_word_at step address) (λ y f. apart x.step x.address step address y.step y.address e f) words,
          dropped_elsewhere (is_by_address_at x.address x.step) (is_by_address_at address step) (λ y f. apart x.address x.step address step y.word.address y.word.step (sym (place_eq x step address) ∙ e) f) by_address,
        )
        (h.same step address)

-- whether a test finds an element, by the part that passes it

is_any : {X : Type 0} (p : X → Bool) (xs : List X) → list_any p xs ≡ list_any (λ x. true) (filter p xs)
is_any p [] = refl
is_any p (x ∷ xs) = go (is_any p xs) (p x) refl
  where
    go : list_any p xs ≡ list_any (λ x. true) (filter p xs) → (b : Bool) → p x ≡ b → list_any p (x ∷ xs) ≡ list_any (λ x. true) (filter p (x ∷ xs))
    go ih true e = rw e refl
    go ih false e = rw e ih

pub any_map : {X Y : Type 0} (p : Y → Bool) (f : X → Y) (xs : List X) → list_any p (map f xs) ≡ list_any (λ x. p (f x)) xs
any_map p f [] = refl
any_map p f (x ∷ xs) = rw (any_map p f xs) refl

pub stands_by_address : (step address : ℕ) (words : List WordPoke) (by_address : List ByAddress) → SameWords words by_address → list_any (is_word_at step address) words ≡ true → list_any (is_by_address_at address step) by_address ≡ true
stands_by_address step address words by_address h e =
    is_any (is_by_address_at address step) by_address ∙ (sym (any_map (λ w. true) (λ b. b.word) (filter (is_by_address_at address step) by_address)) ∙ (ap (list_any (λ w. true)) (sym (h.same step address)) ∙ (sym (is_any (is_word_at step address) words) ∙ e)))

-- what events tell of the words of a step

inside_from : (limit step address : ℕ) (bytes : List (Option ℕ)) → Each (λ p. p.address < limit) (poked_from step address bytes) → (k value : ℕ) → slice_get bytes k ≡ Some (Some value) → address + k < limit
inside_from limit step address [] h k value e = absurd (cc)
inside_from limit step address (None ∷ bytes) h zero value e = absurd (cc)
inside_from limit step address (Some v ∷ bytes) h zero value e = let l : address < limit = h.0 in omega arith
inside_from limit step address (None ∷ bytes) h (suc k) value e = let r = inside_from limit step (address + 1) bytes h k value e in omega arith
inside_from limit step address (Some v ∷ bytes) h (suc k) value e = let r = inside_from limit step (address + 1) bytes h.1 k value e in omega arith

some_inside : (limit step address : ℕ) (bytes : List (Option ℕ)) → Each (λ p. p.address < limit) (poked_from step address bytes) → is_poked bytes ≡ true → address < limit
some_inside limit step address [] h e = absurd (cc)
some_inside limit step address (Some v ∷ bytes) h e = h.0
some_inside limit step address (None ∷ bytes) h e = let r = some_inside limit step (address + 1) bytes h e in omega arith

each_left : {X : Type 0} (P : X → Type 0) (xs ys : List X) → Each P (xs ++ ys) → Each P xs
each_left P [] ys h = tt
each_left P (x ∷ xs) ys h = (h.0, each_left P xs ys h.1)

each_right : {X : Type 0} (P : X → Type 0) (xs ys : List X) → Each P (xs ++ ys) → Each P ys
each_right P [] ys h = h
each_right P (x ∷ xs) ys h = each_right P xs ys h.1

pub words_in : (limit : ℕ) (words : List WordPoke) → Each (λ p. p.address < limit) (bytes_of_words words) → Each (λ w. is_poked w.bytes ≡ true) words → Each (IsWordIn limit) words
words_in limit [] h k = tt
words_in limit (w ∷ words) h k =
    let own = each_left (λ p. p.address < limit) (poked_bytes w) (bytes_of_words words) h in (
      record {
        aligned = w.aligned;
        full = w.full;
        poked = k.0;
        bytes_inside = inside_from limit w.step w.address w.bytes own;
        word_inside = λ e. let l = some_inside limit w.step w.address w.bytes own k.0 in let a = w.aligned in omega arith;
      },
      words_in limit words (each_right (λ p. p.address < limit) (poked_bytes w) (bytes_of_words words) h) k.1,
    )
