-- The kept values of two runs of which a change of one cell turns the one into the other, but for those below the change's own events.
use Rattle.std.proofs.Common.{◌≡◌, ℕ, zero, suc, ◌*◌, ◌<◌, ◌≤◌, Bool, true, false, not, ◌&&◌, ◌||◌, cond, Some, None, is_some, refl, sym, ◌∙◌, ap, arith, inl, inr, ◌⊎◌, le-leb, lt-ltb, le-ltb}
use Rattle.std.proofs.lemmas.Bool.{cases_lt, cases_order, lt-leb, or_parts, true≢false}
use Rattle.sv8_history.specs.Machine.{Machine, Run, state_at, footprint_at, writes_of, touches_of}
use Rattle.sv8_history.specs.Framed.{IsFramed}
use Rattle.sv8_history.specs.Changes.{is_live}
use Rattle.sv8_history.specs.Trace.{some_from, next_checkpoint, kept_at}
use Rattle.sv8_history.proofs.Footprints.{touches_like}
use Rattle.sv8_history.proofs.Spread.{Shift, Turns, quiet_step, mixed, same_footprints, has_at}
use Rattle.sv8_history.proofs.Spans.{none_at, none_from, some_from-like, next_of_recorded}

pub span_same : (m : Machine) → IsFramed m → (x : Shift m) (old new : Run m) (k count : ℕ) → 0 < k → Turns m x old new (k * count)
    → (b : m.Cell) (n : ℕ) → n < k * count
    → some_from n (next_checkpoint k n) (touches_of m (footprint_at m new) b) ≡ some_from n (next_checkpoint k n) (touches_of m (footprint_at m old) b)
span_same m law x old new k count pos turns b n h =
    let l = next_of_recorded k n count pos h in
    some_from-like n (next_checkpoint k n) (touches_of m (footprint_at m new) b) (touches_of m (footprint_at m old) b) (λ j w. touches_like m (footprint_at m new) (footprint_at m old) (k * count) (same_footprints m law x old new (k * count) turns) b j (omega (arith, l)))

-- nothing touches the cell as far as the change reaches
pub reach : (m : Machine) (x : Shift m) (old new : Run m) (r : ℕ) → Turns m x old new r → (c : ℕ) → c ≤ x.last → c ≤ r
    → some_from x.from c (writes_of m (footprint_at m old) x.cell) ≡ false → (n : ℕ) → x.from ≤ n → n < c → touches_of m (footprint_at m old) x.cell n ≡ false
reach m x old new r turns c c-u c-r wrote n t-n n-c =
    let w = none_at x.from c (writes_of m (footprint_at m old) x.cell) wrote n t-n n-c in
    let before : some_from x.from n (writes_of m (footprint_at m old) x.cell) ≡ false = none_from x.from n (writes_of m (footprint_at m old) x.cell) (λ j a b. none_at x.from c (writes_of m (footprint_at m old) x.cell) wrote j a (omega arith)) in
    let q = turns.unread n t-n (omega arith) (omega arith) before in
    rw (q, w)

-- a cell that nothing touches or pokes keeps its value
unchanged_step : (m : Machine) → IsFramed m → (a : m.Cell) (e : m.Event) (s : m.State) → m.Valid e → m.Has a s → m.poke a e ≡ None
    → ((m.footprint e s).reads a || (m.footprint e s).writes a) ≡ false → m.get a (m.step e s) ≡ m.get a s
unchanged_step m law a e s valid has no_poke untouched =
    let p = or_parts ((m.footprint e s).reads a) ((m.footprint e s).writes a) untouched in
    let q = quiet_step m law a (m.get a s) e s valid has (law.cells.get_fits a s has) no_poke p.0 in
    let q2 = rw (p.1, law.cells.put-get a s) at q in
    ap (m.get a) q2 ∙ law.cells.get-put a (m.get a s) (m.step e s) (law.cells.has_step a e s valid has) (law.cells.get_fits a s has)

pub unchanged : (m : Machine) → IsFramed m → (a : m.Cell) (run : Run m) (t c : ℕ) → m.Has a run.start → t ≤ c
    → ((n : ℕ) → t ≤ n → n < c → m.poke a (run.events n) ≡ None) → ((n : ℕ) → t ≤ n → n < c → touches_of m (footprint_at m run) a n ≡ false)
    → m.get a (state_at m run c) ≡ m.get a (state_at m run t)
unchanged m law a run t zero has h unpoked untouched = let e : t ≡ 0 = omega arith in rw e
unchanged m law a run t (suc c) has h unpoked untouched = go (unchanged m law a run t c has) (cases_lt c t)
  where
    go : (t ≤ c → ((n : ℕ) → t ≤ n → n < c → m.poke a (run.events n) ≡ None) → ((n : ℕ) → t ≤ n → n < c → touches_of m (footprint_at m run) a n ≡ false) → m.get a (state_at m run c) ≡ m.get a (state_at m run t))
        → (c < t) ⊎ (t ≤ c) → m.get a (state_at m run (suc c)) ≡ m.get a (state_at m run t)
    go rest (inl l) = let e : t ≡ suc c = omega arith in rw e
    go rest (inr l) =
        unchanged_step m law a (run.events c) (state_at m run c) (run.valid c) (has_at m law a run has c) (unpoked c l (omega arith)) (untouched c l (omega arith)) ∙ rest l (λ n p q. unpoked n p (omega arith)) (λ n p q. untouched n p (omega arith))

-- values in the changed run
get_cond : (m : Machine) → IsFramed m → (a : m.Cell) (v : m.Value) (s r : m.State) (live : Bool) → m.Has a s → m.Fits a v
    → r ≡ cond live (m.put a v s) s → m.get a r ≡ cond live v (m.get a s)
get_cond m law a v s r true has fits e = ap (m.get a) e ∙ law.cells.get-put a v s has fits
get_cond m law a v s r false has fits e = ap (m.get a) e

get_cond_other : (m : Machine) → IsFramed m → (a b : m.Cell) (v : m.Value) (s r : m.State) (live : Bool) → m.same a b ≡ false
    → r ≡ cond live (m.put a v s) s → m.get b r ≡ m.get b s
get_cond_other m law a b v s r true other e = ap (m.get b) e ∙ law.cells.get-put_other a b v s other
get_cond_other m law a b v s r false other e = ap (m.get b) e

pub get_here : (m : Machine) → IsFramed m → (x : Shift m) (old new : Run m) (r : ℕ) → Turns m x old new r → (n : ℕ) → n ≤ r
    → m.get x.cell (state_at m new n) ≡ cond (is_live (writes_of m (footprint_at m old) x.cell) x.from x.first x.last n) x.value (m.get x.cell (state_at m old n))
get_here m law x old new r turns n h =
    get_cond m law x.cell x.value (state_at m old n) (state_at m new n) (is_live (writes_of m (footprint_at m old) x.cell) x.from x.first x.last n) (has_at m law x.cell old turns.has n) turns.fits (mixed m law x old new r turns n h)

pub get_other : (m : Machine) → IsFramed m → (x : Shift m) (old new : Run m) (r : ℕ) → Turns m x old new r → (b : m.Cell) → m.same x.cell b ≡ false
    → (n : ℕ) → n ≤ r → m.get b (state_at m new n) ≡ m.get b (state_at m old n)
get_other m law x old new r turns b other n h =
    get_cond_other m law x.cell b x.value (state_at m old n) (state_at m new n) (is_live (writes_of m (footprint_at m old) x.cell) x.from x.first x.last n) other (mixed m law x old new r turns n h)

kept_cond : {A : Type 0} (p q s t : Bool) (v w : A) → p ≡ q → s ≡ t → (q ≡ true → v ≡ w)
    → cond (true && p && not s) (Some v) None ≡ cond (true && q && not t) (Some w) None
kept_cond p true s t v w p-q s-t h = let e = h refl in rw (p-q, s-t, e)
kept_cond p false s t v w p-q s-t h = rw p-q

-- one kept value of two runs
pub kept_like : (m : Machine) (k r : ℕ) (old new : Run m) (n : ℕ) (b : m.Cell)
    → (n < r → is_some (m.poke b (new.events n)) ≡ is_some (m.poke b (old.events n)))
    → (n < r → some_from n (next_checkpoint k n) (touches_of m (footprint_at m new) b) ≡ some_from n (next_checkpoint k n) (touches_of m (footprint_at m old) b))
    → (n < r → is_some (m.poke b (old.events n)) ≡ true → m.get b (state_at m new n) ≡ m.get b (state_at m old n))
    → kept_at m k new r n b ≡ kept_at m k old r n b
kept_like m k r old new n b pokes spans values = go (cases_lt n r)
  where
    go : (n < r) ⊎ (r ≤ n) → kept_at m k new r n b ≡ kept_at m k old r n b
    go (inl h) =
        rw (lt-ltb n r h)
        (kept_cond
        (is_some (m.poke b (new.events n)))
        (is_some (m.poke b (old.events n)))
        (some_from n (next_checkpoint k n) (touches_of m (footprint_at m new) b))
        (some_from n (next_checkpoint k n) (touches_of m (footprint_at m old) b))
        (m.get b (state_at m new n))
        (m.get b (state_at m old n))
        (pokes h)
        (spans h)
        (values h))
    go (inr h) = rw (le-ltb n r h)

-- of another cell
pub kept_other : (m : Machine) → IsFramed m → (x : Shift m) (old new : Run m) (k count : ℕ) → 0 < k → Turns m x old new (k * count) → (b : m.Cell)
    → m.same x.cell b ≡ false → (n : ℕ) → is_some (m.poke b (new.events n)) ≡ is_some (m.poke b (old.events n))
    → kept_at m k new (k * count) n b ≡ kept_at m k old (k * count) n b
kept_other m law x old new k count pos turns b other n same =
    kept_like
    m k (k * count) old new n b
    (λ h. same)
    (λ h. span_same m law x old new k count pos turns b n h)
    (λ h p. get_other m law x old new (k * count) turns b other n (omega arith))

-- of the cell, at another poke than the next one
pub kept_elsewhere : (m : Machine) → IsFramed m → (x : Shift m) (old new : Run m) (k count : ℕ) → 0 < k → Turns m x old new (k * count) → (n : ℕ)
    → (n ≡ x.last → ⊥) → is_some (m.poke x.cell (new.events n)) ≡ is_some (m.poke x.cell (old.events n))
    → kept_at m k new (k * count) n x.cell ≡ kept_at m k old (k * count) n x.cell
kept_elsewhere m law x old new k count pos turns n apart same =
    kept_like
    m k (k * count) old new n x.cell
    (λ h. same)
    (λ h. span_same m law x old new k count pos turns x.cell n h)
    (λ h p. value h p (cases_lt n x.first) (cases_order n x.last))
  where
    value : n < k * count → is_some (m.poke x.cell (old.events n)) ≡ true → (n < x.first) ⊎ (x.first ≤ n)
        → (n ≡ x.last) ⊎ ((n < x.last) ⊎ (x.last < n)) → m.get x.cell (state_at m new n) ≡ m.get x.cell (state_at m old n)
    value h p (inl l) b = let e = get_here m law x old new (k * count) turns n (omega arith) in rw (lt-leb x.first n l) at e
    value h p (inr l) (inl g) = absurd (apart g)
    value h p (inr l) (inr (inl g)) = let e = turns.unpoked n l g in absurd (true≢false (sym p ∙ ap is_some e))
    value h p (inr l) (inr (inr g)) =
        let e = get_here m law x old new (k * count) turns n (omega arith) in
        rw (le-leb x.first n l, lt-leb n x.last g) at e
