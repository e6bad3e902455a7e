-- One search for several cells.
use Rattle.std.proofs.Common.{◌≡◌, ℕ, zero, suc, ◌*◌, ◌<◌, ◌≤◌, min, max, Bool, true, false, not, ◌&&◌, ◌||◌, ltb, leb, List, [], ◌∷◌, ◌++◌, Option, Some, None, refl, sym, ◌∙◌, ap, arith, inl, inr, ◌⊎◌, lt-ltb, le-ltb}
use Rattle.std.proofs.lemmas.Bool.{cases_lt}
use Rattle.sv8_history.specs.Machine.{Machine, Run, state_at, footprint_at, Notes, reads_of, writes_of}
use Rattle.sv8_history.specs.Trace.{some_from}
use Rattle.sv8_history.specs.Changes.{Clear, Change}
use Rattle.sv8_history.specs.Reads.{reads_change, reads_edit, IsLeast, least_below, first_of_change, first_of_edit, first_of_each, earlier, AreTogether, AreOneWord, last_end, WordChanges, AreWords, all_changes, by_words}
use Rattle.sv8_history.specs.Laws.{FirstOfEach, SearchByWords}
use Rattle.sv8_history.proofs.Spans.{some_from-like}
use Rattle.sv8_history.proofs.Footprints.{AreAlike}
use Rattle.sv8_history.proofs.Least.{Found, found, found_one}

-- ---- the least of several

or_none : (a b : Bool) → a ≡ false → b ≡ false → (a || b) ≡ false
or_none a b p q = rw (p, q)

or_left : (a b : Bool) → a ≡ true → (a || b) ≡ true
or_left a b p = rw p

or_right : (a b : Bool) → b ≡ true → (a || b) ≡ true
or_right true b p = refl
or_right false b p = p

found_either : (c : ℕ) (f g : ℕ → Bool) (o p : Option ℕ) → Found c f o → Found c g p → Found c (λ n. f n || g n) (earlier o p)
found_either c f g None None h i = λ n l. or_none (f n) (g n) (h n l) (i n l)
found_either c f g None (Some r) h i =
    let q = i.1 in
    (i.0, record { here = or_right (f r) (g r) q.here; least = λ n l. or_none (f n) (g n) (h n (let b = i.0 in omega arith)) (q.least n l) })
found_either c f g (Some s) None h i =
    let p = h.1 in
    (h.0, record { here = or_left (f s) (g s) p.here; least = λ n l. or_none (f n) (g n) (p.least n l) (i n (let b = h.0 in omega arith)) })
found_either c f g (Some s) (Some r) h i = go (cases_lt s r)
  where
    first : IsLeast f s
    first = h.1

    second : IsLeast g r
    second = i.1

    go : (s < r) ⊎ (r ≤ s) → Found c (λ n. f n || g n) (Some (min s r))
    go (inl l) =
        let e : min s r ≡ s = omega arith in
        rw e (h.0, record { here = or_left (f s) (g s) first.here; least = λ n b. or_none (f n) (g n) (first.least n b) (second.least n (omega arith)) })
    go (inr l) =
        let e : min s r ≡ r = omega arith in
        rw e (i.0, record { here = or_right (f r) (g r) second.here; least = λ n b. or_none (f n) (g n) (first.least n (omega arith)) (second.least n b) })

pub of_each : (m : Machine) → FirstOfEach m
of_each m k trace cs =
    found_one (k * trace.count) (reads_edit m trace.notes cs) (first_of_edit m k trace cs) (first_of_each m k trace cs) (found (k * trace.count) (reads_edit m trace.notes cs)) (each cs)
  where
    each : (cs : List (Change m)) → Found (k * trace.count) (reads_edit m trace.notes cs) (first_of_each m k trace cs)
    each [] = λ n l. refl
    each (c ∷ cs) =
        found_either (k * trace.count) (reads_change m trace.notes c) (reads_edit m trace.notes cs) (first_of_change m k trace c) (first_of_each m k trace cs) (found (k * trace.count) (reads_change m trace.notes c)) (each cs)

-- ---- the cells of a word

ltb_max : (n u w : ℕ) → ltb n (max u w) ≡ (ltb n u || ltb n w)
ltb_max n u w = go (cases_lt n u) (cases_lt n w)
  where
    go : (n < u) ⊎ (u ≤ n) → (n < w) ⊎ (w ≤ n) → ltb n (max u w) ≡ (ltb n u || ltb n w)
    go (inl p) q = rw (lt-ltb n u p, lt-ltb n (max u w) (omega arith))
    go (inr p) (inl q) = rw (le-ltb n u p, lt-ltb n w q, lt-ltb n (max u w) (omega arith))
    go (inr p) (inr q) = rw (le-ltb n u p, le-ltb n w q, le-ltb n (max u w) (omega arith))

split : (a b c r w : Bool) → ((a && b && r && w) || (a && c && r && w)) ≡ (a && (b || c) && r && w)
split true true true true true = refl
split true true true true false = refl
split true true true false w = refl
split true true false true true = refl
split true true false true false = refl
split true true false false w = refl
split true false true true w = refl
split true false true false w = refl
split true false false r w = refl
split false b c r w = refl

none_before : (r w a : Bool) (n : ℕ) → (a && ltb n 0 && r && w) ≡ false
none_before r w a n = let e = le-ltb n 0 (omega arith) in go a (ltb n 0) e
  where
    go : (a b : Bool) → b ≡ false → (a && b && r && w) ≡ false
    go true b e = rw e
    go false b e = refl

-- The two cells have the same notes, as far as they are those of a run.
together : (m : Machine) (run : Run m) (notes : Notes m) (r : ℕ) → AreAlike m notes (footprint_at m run) r → (a b : m.Cell) → AreTogether m a b
    → (n : ℕ) → n < r
    → (reads_of m notes a n ≡ reads_of m notes b n) × (writes_of m notes a n ≡ writes_of m notes b n)
together m run notes r alike a b same n l =
    let x = alike n l in
    (x.reads a ∙ same.reads (run.events n) (state_at m run n) ∙ sym (x.reads b), x.writes a ∙ same.writes (run.events n) (state_at m run n) ∙ sym (x.writes b))

word_reads : (m : Machine) (run : Run m) (notes : Notes m) (r : ℕ) → AreAlike m notes (footprint_at m run) r → (a : m.Cell) (t : ℕ) (cs : List (Change m))
    → AreOneWord m a t cs → (n : ℕ) → n < r
    → reads_edit m notes cs n ≡ reads_change m notes (record { cell = a; from = t; to = last_end m cs; cause = Clear }) n
word_reads m run notes r alike a t [] one n l =
    sym (none_before (reads_of m notes a n) (not (m.ends_search a && some_from t n (writes_of m notes a))) (leb t n) n)
word_reads m run notes r alike a t (c ∷ cs) one n l =
    let x = here in
    let y = word_reads m run notes r alike a t cs one.2 n l in
    let z = ltb_max n c.to (last_end m cs) in
    rw (x, y, z) (split (leb t n) (ltb n c.to) (ltb n (last_end m cs)) (reads_of m notes a n) (not (m.ends_search a && some_from t n (writes_of m notes a))))
  where
    here : reads_change m notes c n ≡ (leb t n && ltb n c.to && reads_of m notes a n && not (m.ends_search a && some_from t n (writes_of m notes a)))
    here =
        let w = one.1 in
        let p = one.0 in
        let q = w.ends in
        let d = (together m run notes r alike c.cell a one.1 n l).0 in
        let s = some_from-like t n (writes_of m notes c.cell) (writes_of m notes a) (λ j i. (together m run notes r alike c.cell a one.1 j (omega arith)).1) in
        rw (p, q, d, s)

reads_append : (m : Machine) (notes : Notes m) (cs ds : List (Change m)) (n : ℕ)
    → reads_edit m notes (cs ++ ds) n ≡ (reads_edit m notes cs n || reads_edit m notes ds n)
reads_append m notes [] ds n = refl
reads_append m notes (c ∷ cs) ds n =
    ap (λ b. reads_change m notes c n || b) (reads_append m notes cs ds n) ∙ sym (or_assoc (reads_change m notes c n) (reads_edit m notes cs n) (reads_edit m notes ds n))
  where
    or_assoc : (a b d : Bool) → ((a || b) || d) ≡ (a || (b || d))
    or_assoc true b d = refl
    or_assoc false b d = refl

words_read : (m : Machine) (run : Run m) (notes : Notes m) (r : ℕ) → AreAlike m notes (footprint_at m run) r → (ws : List (WordChanges m)) → AreWords m ws
    → (n : ℕ) → n < r → reads_edit m notes (all_changes m ws) n ≡ reads_edit m notes (by_words m ws) n
words_read m run notes r alike [] words n l = refl
words_read m run notes r alike (w ∷ ws) words n l =
    let x = reads_append m notes w.changes (all_changes m ws) n in
    let y = word_reads m run notes r alike w.cell w.from w.changes words.0 n l in
    let z = words_read m run notes r alike ws words.1 n l in
    rw (x, y, z)

least_like : (c : ℕ) (f g : ℕ → Bool) → ((n : ℕ) → n < c → f n ≡ g n) → least_below c f ≡ least_below c g
least_like zero f g h = refl
least_like (suc c) f g h = let p = least_like c f g (λ n l. h n (omega arith)) in let q = h c (omega arith) in rw (p, q)

pub search_by_words : (m : Machine) → SearchByWords m
search_by_words m k run trace ws right words =
    least_like (k * trace.count) (reads_edit m trace.notes (all_changes m ws)) (reads_edit m trace.notes (by_words m ws))
    (words_read m run trace.notes (k * trace.count) right.notes ws words) ∙ of_each m k trace (by_words m ws)
