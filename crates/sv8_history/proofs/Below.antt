-- The values kept below the two events of a change: the one that makes it, and the one that ends it.
use Rattle.std.proofs.Common.{◌≡◌, ℕ, suc, ◌+◌, ◌*◌, ◌/◌, ◌<◌, ◌≤◌, Bool, true, false, not, ◌&&◌, cond, ltb, leb, Option, Some, None, is_some, option_map, refl, sym, ◌∙◌, ap, subst, arith, inl, inr, ◌⊎◌, le-leb, lt-ltb, le-ltb, mul_comm, div-lt_iff_lt-mul}
use Rattle.std.proofs.lemmas.Bool.{cases_lt, cases_Bool, cases_eq, lt-leb, and_parts, or_parts, ltb-true, not-true, true_from_ne_false, true≢false}
use Rattle.sv8_history.specs.Machine.{Machine, Run, state_at, footprint_at, reads_of, writes_of, touches_of}
use Rattle.sv8_history.specs.Framed.{IsFramed}
use Rattle.sv8_history.specs.Trace.{some_from, next_checkpoint, kept_at, Trace, IsTraceOf}
use Rattle.sv8_history.specs.Changes.{is_live}
use Rattle.sv8_history.specs.Patches.{kept_at_end, kept_by_poke}
use Rattle.sv8_history.proofs.Footprints.{writes_like}
use Rattle.sv8_history.proofs.Spread.{Shift, Turns}
use Rattle.sv8_history.proofs.Spans.{none_at, none_from, next_above, next_of_recorded, next_same}
use Rattle.sv8_history.proofs.Kept.{span_same, reach, unchanged, get_here}

-- where a run has a kept value, and where none
pub kept_late : (m : Machine) (k r : ℕ) (run : Run m) (n : ℕ) (a : m.Cell) → r ≤ n → kept_at m k run r n a ≡ None
kept_late m k r run n a h = rw (le-ltb n r h)

pub kept_touched : (m : Machine) (k r : ℕ) (run : Run m) (n : ℕ) (a : m.Cell)
    → some_from n (next_checkpoint k n) (touches_of m (footprint_at m run) a) ≡ true → kept_at m k run r n a ≡ None
kept_touched m k r run n a h = go (ltb n r) (is_some (m.poke a (run.events n))) (some_from n (next_checkpoint k n) (touches_of m (footprint_at m run) a)) h
  where
    go : (b p s : Bool) → s ≡ true → cond (b && p && not s) (Some (m.get a (state_at m run n))) None ≡ None
    go true true s e = rw e
    go true false s e = refl
    go false p s e = refl

pub kept_unpoked : (m : Machine) (k r : ℕ) (run : Run m) (n : ℕ) (a : m.Cell) → is_some (m.poke a (run.events n)) ≡ false → kept_at m k run r n a ≡ None
kept_unpoked m k r run n a h = go (ltb n r) (is_some (m.poke a (run.events n))) h
  where
    go : (b p : Bool) → p ≡ false
        → cond (b && p && not (some_from n (next_checkpoint k n) (touches_of m (footprint_at m run) a))) (Some (m.get a (state_at m run n))) None ≡ None
    go true p e = rw e
    go false p e = refl

pub kept_some : (m : Machine) (k r : ℕ) (run : Run m) (n : ℕ) (a : m.Cell) → n < r → is_some (m.poke a (run.events n)) ≡ true
    → some_from n (next_checkpoint k n) (touches_of m (footprint_at m run) a) ≡ false → kept_at m k run r n a ≡ Some (m.get a (state_at m run n))
kept_some m k r run n a h p s = rw (lt-ltb n r h, p, s)

-- the notes of writes are those of the run
pub wrote_same : (m : Machine) (k : ℕ) (run : Run m) (trace : Trace m) → IsTraceOf m k run trace → (a : m.Cell) (t c : ℕ) → c ≤ k * trace.count
    → some_from t c (writes_of m trace.notes a) ≡ some_from t c (writes_of m (footprint_at m run) a)
wrote_same m k run trace right a t c h = writes_like m trace.notes (footprint_at m run) (k * trace.count) right.notes a t c h

end_cond : {A : Type 0} (p q s t wrote : Bool) (g h v : A) → p ≡ q → s ≡ t → g ≡ cond (not wrote) v h
    → cond (true && p && not s) (Some g) None ≡ cond wrote (cond (true && q && not t) (Some h) None) (option_map (λ w. v) (cond (true && q && not t) (Some h) None))
end_cond p true s true true g h v e f i = rw (e, f)
end_cond p true s false true g h v e f i = rw (e, f, i)
end_cond p true s true false g h v e f i = rw (e, f)
end_cond p true s false false g h v e f i = rw (e, f, i)
end_cond p false s t true g h v e f i = rw e
end_cond p false s t false g h v e f i = rw e

pub cond_twice : {A : Type 0} (b : Bool) (x : A) → x ≡ cond b x x
cond_twice true x = refl
cond_twice false x = refl

-- the value kept for the next poke
pub kept_end : (m : Machine) → IsFramed m → (x : Shift m) (old new : Run m) (k : ℕ) (trace : Trace m) → 0 < k → IsTraceOf m k old trace
    → Turns m x old new (k * trace.count) → kept_at_end m trace x.cell x.value x.from x.last ≡ kept_at m k new (k * trace.count) x.last x.cell
kept_end m law x old new k trace pos right turns = go (cases_lt x.last (k * trace.count))
  where
    go : (x.last < k * trace.count) ⊎ (k * trace.count ≤ x.last)
        → kept_at_end m trace x.cell x.value x.from x.last ≡ kept_at m k new (k * trace.count) x.last x.cell
    go (inl h) =
        let w = wrote_same m k old trace right x.cell x.from x.last (omega arith) in
        let q = right.kept x.last x.cell in
        let same : is_some (m.poke x.cell (new.events x.last)) ≡ is_some (m.poke x.cell (old.events x.last)) = ap (λ e. is_some (m.poke x.cell e)) (turns.same_events x.last turns.first-last) in
        let live = get_here m law x old new (k * trace.count) turns x.last (omega arith) in
        let here : m.get x.cell (state_at m new x.last) ≡ cond (not (some_from x.from x.last (writes_of m (footprint_at m old) x.cell))) x.value (m.get x.cell (state_at m old x.last)) = rw (le-leb x.first x.last turns.first-last, le-leb x.last x.last (omega arith)) at live in
        rw (w, q, lt-ltb x.last (k * trace.count) h)
        (sym
        (end_cond
        (is_some (m.poke x.cell (new.events x.last)))
        (is_some (m.poke x.cell (old.events x.last)))
        (some_from x.last (next_checkpoint k x.last) (touches_of m (footprint_at m new) x.cell))
        (some_from x.last (next_checkpoint k x.last) (touches_of m (footprint_at m old) x.cell))
        (some_from x.from x.last (writes_of m (footprint_at m old) x.cell))
        (m.get x.cell (state_at m new x.last))
        (m.get x.cell (state_at m old x.last))
        x.value
        same
        (span_same m law x old new k trace.count pos turns x.cell x.last h)
        here))
    go (inr h) =
        let p = kept_late m k (k * trace.count) new x.last x.cell h in
        let q : trace.kept x.last x.cell ≡ None = right.kept x.last x.cell ∙ kept_late m k (k * trace.count) old x.last x.cell h in
        rw (p, q) (sym (cond_twice (some_from x.from x.last (writes_of m trace.notes x.cell)) None))

-- the three places from which a new poke takes the value below it
choose_none : {A : Type 0} (q z : Option A) (w : A) (b c : Bool) → q ≡ None → b ≡ false → (c ≡ true → z ≡ None)
    → cond (is_some q) q (cond b (Some w) (cond c z None)) ≡ None
choose_none q z w b true h i j = let e = j refl in rw (h, i, e)
choose_none q z w b false h i j = rw (h, i)

choose_first : {A : Type 0} (q z : Option A) (w g : A) (b c : Bool) → q ≡ Some g → cond (is_some q) q (cond b (Some w) (cond c z None)) ≡ Some g
choose_first q z w g b c h = rw h

choose_second : {A : Type 0} (q z : Option A) (w g : A) (b c : Bool) → q ≡ None → b ≡ true → w ≡ g
    → cond (is_some q) q (cond b (Some w) (cond c z None)) ≡ Some g
choose_second q z w g b c h i j = rw (h, i, j)

choose_third : {A : Type 0} (q z : Option A) (w g : A) (b c : Bool) → q ≡ None → b ≡ false → c ≡ true → z ≡ Some g
    → cond (is_some q) q (cond b (Some w) (cond c z None)) ≡ Some g
choose_third q z w g b c h i j e = rw (h, i, j, e)

writes_from-touches : (m : Machine) (run : Run m) (a : m.Cell) (n : ℕ) → touches_of m (footprint_at m run) a n ≡ false
    → writes_of m (footprint_at m run) a n ≡ false
writes_from-touches m run a n h = (or_parts (reads_of m (footprint_at m run) a n) (writes_of m (footprint_at m run) a n) h).1

none_from-is_some : {A : Type 0} (o : Option A) → is_some o ≡ false → o ≡ None
none_from-is_some None h = refl
none_from-is_some (Some x) h = absurd (true≢false h)

-- where the change does not come to the next checkpoint
not_patched : (m : Machine) (trace : Trace m) (a : m.Cell) (k t u r : ℕ) → u < next_checkpoint k t
    → (leb (next_checkpoint k t) r && is_live (writes_of m trace.notes a) t (suc t) u (next_checkpoint k t)) ≡ false
not_patched m trace a k t u r h = go (leb (next_checkpoint k t) r) (leb (suc t) (next_checkpoint k t)) (leb (next_checkpoint k t) u) (lt-leb (next_checkpoint k t) u h)
  where
    go : (b c d : Bool) → d ≡ false → (b && (c && d && not (some_from t (next_checkpoint k t) (writes_of m trace.notes a)))) ≡ false
    go true true d e = rw e
    go true false d e = refl
    go false c d e = refl

point_next : (m : Machine) (k : ℕ) (run : Run m) (trace : Trace m) → 0 < k → IsTraceOf m k run trace → (t : ℕ) → t < k * trace.count
    → trace.point (next_checkpoint k t) ≡ state_at m run (next_checkpoint k t)
point_next m k run trace pos right t h =
    let e : k * (t / k + 1) ≡ next_checkpoint k t = omega arith in
    let l : t / k < trace.count = (div-lt_iff_lt-mul pos).1 (rw (mul_comm trace.count k) h) in
    subst (λ n. trace.point n ≡ state_at m run n) e (right.points (t / k + 1) (omega arith))

-- nothing touches the cell up to the next checkpoint: of `t` from that of `u`
pub span_from-later : (k t u : ℕ) → 0 < k → t ≤ u → u < next_checkpoint k t → (f : ℕ → Bool) → ((n : ℕ) → t ≤ n → n < u → f n ≡ false)
    → some_from u (next_checkpoint k u) f ≡ false → some_from t (next_checkpoint k t) f ≡ false
span_from-later k t u pos t-u u-next f below later = none_from t (next_checkpoint k t) f (λ n p q. go n p q (cases_lt n u))
  where
    go : (n : ℕ) → t ≤ n → n < next_checkpoint k t → (n < u) ⊎ (u ≤ n) → f n ≡ false
    go n p q (inl h) = below n p h
    go n p q (inr h) = none_at u (next_checkpoint k u) f later n h (let e = next_same k t u pos t-u u-next in rw e q)

span_later : (k t u : ℕ) → 0 < k → t ≤ u → u < next_checkpoint k t → (f : ℕ → Bool) → some_from t (next_checkpoint k t) f ≡ false
    → some_from u (next_checkpoint k u) f ≡ false
span_later k t u pos t-u u-next f span =
    none_from u (next_checkpoint k u) f (λ n p q. none_at t (next_checkpoint k t) f span n (omega arith) (let e = next_same k t u pos t-u u-next in rw (← e) q))

-- a new poke keeps the value that stood before it, where something touches the cell
set_touched : (m : Machine) (x : Shift m) (old new : Run m) (k : ℕ) (trace : Trace m) → 0 < k → IsTraceOf m k old trace
    → Turns m x old new (k * trace.count) → x.first ≡ suc x.from → x.from < k * trace.count
    → some_from x.from (next_checkpoint k x.from) (touches_of m (footprint_at m old) x.cell) ≡ true → kept_by_poke m k trace x.cell x.from x.last ≡ None
set_touched m x old new k trace pos right turns lo h s =
    choose_none
    (trace.kept x.from x.cell)
    (trace.kept x.last x.cell)
    (m.get x.cell (trace.point (next_checkpoint k x.from)))
    (leb (next_checkpoint k x.from) (k * trace.count) && is_live (writes_of m trace.notes x.cell) x.from (suc x.from) x.last (next_checkpoint k x.from))
    (leb x.from x.last && (ltb x.last (next_checkpoint k x.from) && not (some_from x.from x.last (writes_of m trace.notes x.cell))))
    (right.kept x.from x.cell ∙ kept_touched m k (k * trace.count) old x.from x.cell s)
    (second (cases_lt x.last (next_checkpoint k x.from)))
    (λ c.
    third
    (and_parts (ltb x.last (next_checkpoint k x.from)) (not (some_from x.from x.last (writes_of m trace.notes x.cell)))
    (and_parts (leb x.from x.last) (ltb x.last (next_checkpoint k x.from) && not (some_from x.from x.last (writes_of m trace.notes x.cell))) c).1))
  where
    within : next_checkpoint k x.from ≤ k * trace.count
    within = next_of_recorded k x.from trace.count pos h

    second : (x.last < next_checkpoint k x.from) ⊎ (next_checkpoint k x.from ≤ x.last)
        → (leb (next_checkpoint k x.from) (k * trace.count) && is_live (writes_of m trace.notes x.cell) x.from (suc x.from) x.last (next_checkpoint k x.from)) ≡ false
    second (inl l) = not_patched m trace x.cell k x.from x.last (k * trace.count) l
    second (inr l) =
        let w : some_from x.from (next_checkpoint k x.from) (writes_of m trace.notes x.cell) ≡ true = wrote_same m k old trace right x.cell x.from (next_checkpoint k x.from) within ∙ true_from_ne_false (some_from x.from (next_checkpoint k x.from) (writes_of m (footprint_at m old) x.cell)) (λ e. true≢false (sym s ∙ none_from x.from (next_checkpoint k x.from) (touches_of m (footprint_at m old) x.cell) (reach m x old new (k * trace.count) turns (next_checkpoint k x.from) l within e))) in
        rw (w, le-leb (next_checkpoint k x.from) (k * trace.count) within, le-leb (next_checkpoint k x.from) x.last l, le-leb (suc x.from) (next_checkpoint k x.from) (next_above k x.from pos))

    third : (ltb x.last (next_checkpoint k x.from) ≡ true) × (not (some_from x.from x.last (writes_of m trace.notes x.cell)) ≡ true)
        → trace.kept x.last x.cell ≡ None
    third p =
        let l : x.last < next_checkpoint k x.from = ltb-true x.last (next_checkpoint k x.from) p.0 in
        let u-r : x.last ≤ k * trace.count = (let b = within in omega arith) in
        let t-u : x.from ≤ x.last = (let b = turns.first-last in omega arith) in
        let w : some_from x.from x.last (writes_of m (footprint_at m old) x.cell) ≡ false = sym (wrote_same m k old trace right x.cell x.from x.last u-r) ∙ not-true (some_from x.from x.last (writes_of m trace.notes x.cell)) p.1 in
        right.kept x.last x.cell ∙ kept_touched
        m k (k * trace.count) old x.last x.cell
        (true_from_ne_false
        (some_from x.last (next_checkpoint k x.last) (touches_of m (footprint_at m old) x.cell))
        (λ e. true≢false (sym s ∙ span_from-later k x.from x.last pos t-u l (touches_of m (footprint_at m old) x.cell) (reach m x old new (k * trace.count) turns x.last (omega arith) u-r w) e)))

-- .. and where nothing does
set_untouched : (m : Machine) → IsFramed m → (x : Shift m) (old new : Run m) (k : ℕ) (trace : Trace m) → 0 < k → IsTraceOf m k old trace
    → Turns m x old new (k * trace.count) → x.first ≡ suc x.from → x.from < k * trace.count
    → some_from x.from (next_checkpoint k x.from) (touches_of m (footprint_at m old) x.cell) ≡ false
    → kept_by_poke m k trace x.cell x.from x.last ≡ Some (m.get x.cell (state_at m old x.from))
set_untouched m law x old new k trace pos right turns lo h s = go (cases_Bool (is_some (m.poke x.cell (old.events x.from)))) (cases_lt x.last (next_checkpoint k x.from))
  where
    within : next_checkpoint k x.from ≤ k * trace.count
    within = next_of_recorded k x.from trace.count pos h

    quiet : (n : ℕ) → x.from ≤ n → n < next_checkpoint k x.from → touches_of m (footprint_at m old) x.cell n ≡ false
    quiet = none_at x.from (next_checkpoint k x.from) (touches_of m (footprint_at m old) x.cell) s

    value : is_some (m.poke x.cell (old.events x.from)) ≡ false → (c : ℕ) → x.from ≤ c → c ≤ next_checkpoint k x.from → c ≤ x.last
        → m.get x.cell (state_at m old c) ≡ m.get x.cell (state_at m old x.from)
    value p c t-c c-next c-u = unchanged m law x.cell old x.from c turns.has t-c (λ n b d. unpoked n b d (cases_eq n x.from)) (λ n b d. quiet n b (omega arith))
      where
        unpoked : (n : ℕ) → x.from ≤ n → n < c → (n ≡ x.from) ⊎ (n ≡ x.from → ⊥) → m.poke x.cell (old.events n) ≡ None
        unpoked n b d (inl e) = rw e (none_from-is_some (m.poke x.cell (old.events x.from)) p)
        unpoked n b d (inr e) = turns.unpoked n (omega arith) (omega arith)

    go : (is_some (m.poke x.cell (old.events x.from)) ≡ true) ⊎ (is_some (m.poke x.cell (old.events x.from)) ≡ false)
        → (x.last < next_checkpoint k x.from) ⊎ (next_checkpoint k x.from ≤ x.last)
        → kept_by_poke m k trace x.cell x.from x.last ≡ Some (m.get x.cell (state_at m old x.from))
    go (inl p) c =
        choose_first
        (trace.kept x.from x.cell)
        (trace.kept x.last x.cell)
        (m.get x.cell (trace.point (next_checkpoint k x.from)))
        (m.get x.cell (state_at m old x.from))
        (leb (next_checkpoint k x.from) (k * trace.count) && is_live (writes_of m trace.notes x.cell) x.from (suc x.from) x.last (next_checkpoint k x.from))
        (leb x.from x.last && (ltb x.last (next_checkpoint k x.from) && not (some_from x.from x.last (writes_of m trace.notes x.cell))))
        (right.kept x.from x.cell ∙ kept_some m k (k * trace.count) old x.from x.cell h p s)
    go (inr p) (inl l) =
        let t-u : x.from ≤ x.last = (let b = turns.first-last in omega arith) in
        let w : some_from x.from x.last (writes_of m trace.notes x.cell) ≡ false = wrote_same m k old trace right x.cell x.from x.last (let b = within in omega arith) ∙ none_from x.from x.last (writes_of m (footprint_at m old) x.cell) (λ n b d. writes_from-touches m old x.cell n (quiet n b (omega arith))) in
        let v = value p x.last t-u (omega arith) (omega arith) in
        choose_third
        (trace.kept x.from x.cell)
        (trace.kept x.last x.cell)
        (m.get x.cell (trace.point (next_checkpoint k x.from)))
        (m.get x.cell (state_at m old x.from))
        (leb (next_checkpoint k x.from) (k * trace.count) && is_live (writes_of m trace.notes x.cell) x.from (suc x.from) x.last (next_checkpoint k x.from))
        (leb x.from x.last && (ltb x.last (next_checkpoint k x.from) && not (some_from x.from x.last (writes_of m trace.notes x.cell))))
        (right.kept x.from x.cell ∙ kept_unpoked m k (k * trace.count) old x.from x.cell p)
        (not_patched m trace x.cell k x.from x.last (k * trace.count) l)
        (rw (le-leb x.from x.last t-u, lt-ltb x.last (next_checkpoint k x.from) l, w))
        (right.kept x.last x.cell ∙ kept_some m k (k * trace.count) old x.last x.cell (let b = within in omega arith) (turns.poked (let b = within in omega arith)) (span_later k x.from x.last pos t-u l (touches_of m (footprint_at m old) x.cell) s) ∙ ap Some v)
    go (inr p) (inr l) =
        let w : some_from x.from (next_checkpoint k x.from) (writes_of m trace.notes x.cell) ≡ false = wrote_same m k old trace right x.cell x.from (next_checkpoint k x.from) within ∙ none_from x.from (next_checkpoint k x.from) (writes_of m (footprint_at m old) x.cell) (λ n b d. writes_from-touches m old x.cell n (quiet n b d)) in
        let above = next_above k x.from pos in
        choose_second
        (trace.kept x.from x.cell)
        (trace.kept x.last x.cell)
        (m.get x.cell (trace.point (next_checkpoint k x.from)))
        (m.get x.cell (state_at m old x.from))
        (leb (next_checkpoint k x.from) (k * trace.count) && is_live (writes_of m trace.notes x.cell) x.from (suc x.from) x.last (next_checkpoint k x.from))
        (leb x.from x.last && (ltb x.last (next_checkpoint k x.from) && not (some_from x.from x.last (writes_of m trace.notes x.cell))))
        (right.kept x.from x.cell ∙ kept_unpoked m k (k * trace.count) old x.from x.cell p)
        (rw (w, le-leb (next_checkpoint k x.from) (k * trace.count) within, le-leb (next_checkpoint k x.from) x.last l, le-leb (suc x.from) (next_checkpoint k x.from) above))
        (ap (m.get x.cell) (point_next m k old trace pos right x.from h) ∙ value p (next_checkpoint k x.from) (omega arith) (omega arith) l)

pub kept_set : (m : Machine) → IsFramed m → (x : Shift m) (old new : Run m) (k : ℕ) (trace : Trace m) → 0 < k → IsTraceOf m k old trace
    → Turns m x old new (k * trace.count) → x.first ≡ suc x.from → is_some (m.poke x.cell (new.events x.from)) ≡ true
    → kept_by_poke m k trace x.cell x.from x.last ≡ kept_at m k new (k * trace.count) x.from x.cell
kept_set m law x old new k trace pos right turns lo poked = go (cases_lt x.from (k * trace.count))
  where
    go : (x.from < k * trace.count) ⊎ (k * trace.count ≤ x.from) → kept_by_poke m k trace x.cell x.from x.last ≡ kept_at m k new (k * trace.count) x.from x.cell
    go (inr h) =
        let z : trace.kept x.last x.cell ≡ None = right.kept x.last x.cell ∙ kept_late m k (k * trace.count) old x.last x.cell (let b = turns.first-last in omega arith) in
        choose_none
        (trace.kept x.from x.cell)
        (trace.kept x.last x.cell)
        (m.get x.cell (trace.point (next_checkpoint k x.from)))
        (leb (next_checkpoint k x.from) (k * trace.count) && is_live (writes_of m trace.notes x.cell) x.from (suc x.from) x.last (next_checkpoint k x.from))
        (leb x.from x.last && (ltb x.last (next_checkpoint k x.from) && not (some_from x.from x.last (writes_of m trace.notes x.cell))))
        (right.kept x.from x.cell ∙ kept_late m k (k * trace.count) old x.from x.cell h)
        (rw (lt-leb (next_checkpoint k x.from) (k * trace.count) (let b = next_above k x.from pos in omega arith)))
        (λ w. z) ∙ sym (kept_late m k (k * trace.count) new x.from x.cell h)
    go (inl h) = spans (cases_Bool (some_from x.from (next_checkpoint k x.from) (touches_of m (footprint_at m old) x.cell)))
      where
        span : some_from x.from (next_checkpoint k x.from) (touches_of m (footprint_at m new) x.cell) ≡ some_from x.from (next_checkpoint k x.from) (touches_of m (footprint_at m old) x.cell)
        span = span_same m law x old new k trace.count pos turns x.cell x.from h

        spans : (some_from x.from (next_checkpoint k x.from) (touches_of m (footprint_at m old) x.cell) ≡ true) ⊎ (some_from x.from (next_checkpoint k x.from) (touches_of m (footprint_at m old) x.cell) ≡ false)
            → kept_by_poke m k trace x.cell x.from x.last ≡ kept_at m k new (k * trace.count) x.from x.cell
        spans (inl s) = set_touched m x old new k trace pos right turns lo h s ∙ sym (kept_touched m k (k * trace.count) new x.from x.cell (span ∙ s))
        spans (inr s) =
            let b = turns.before x.from (omega arith) in
            set_untouched m law x old new k trace pos right turns lo h s ∙ ap (λ q. Some (m.get x.cell q)) (sym b) ∙ sym (kept_some m k (k * trace.count) new x.from x.cell h poked (span ∙ s))
