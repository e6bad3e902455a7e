-- The parts of a patch make the whole, for any machine.
use Rattle.std.proofs.Common.{◌≡◌, ◌≢◌, ℕ, suc, ◌+◌, ◌*◌, ◌/◌, ◌<◌, ◌≤◌, ◌==◌, Bool, true, false, not, ◌&&◌, cond, leb, ltb, min, Option, Some, None, is_some, option_map, refl, sym, ◌∙◌, ap, ap₂, arith, inl, inr, ◌⊎◌, le-leb, lt-ltb, le-ltb, eq-eqb, ne_eqb, div-lt_iff_lt-mul, le-div_iff_mul-le, mul_comm, mul-le-mul_left}
use Rattle.std.proofs.lemmas.Bool.{cases_lt, cases_eq, lt-leb, true≢false, true_from_ne_false}
use Rattle.std.proofs.Math.Nat.{mul-div_cancel_left, mul-suc}
use Rattle.std.specs.Int.{div_ceil}
use Rattle.std.proofs.lemmas.Grind.{div_ceil_times}
use Rattle.sv8_history.specs.Machine.{Machine, writes_of}
use Rattle.sv8_history.specs.Trace.{Trace, Near, some_from, next_checkpoint}
use Rattle.sv8_history.specs.Changes.{is_live}
use Rattle.sv8_history.specs.Patches.{patched_point, kept_at_end, kept_by_poke, spread, keeping}
use Rattle.sv8_history.proofs.Spans.{none_at, none_from, next_above}
use Rattle.sv8_history.specs.Patching.{IsFirstWrite, KeptPut, RaisedAt}

-- ---- the first write tells whether there is one

unwritten : (f : ℕ → Bool) (t c r wrote : ℕ) → c ≤ r → ((n : ℕ) → t ≤ n → n < wrote → n < r → f n ≡ false) → (wrote < r → (t ≤ wrote) × (f wrote ≡ true)) → leb c wrote ≡ not (some_from t c f)
unwritten f t c r wrote c-r before at = same (cases_lt wrote c)
  where
    same : (wrote < c) ⊎ (c ≤ wrote) → leb c wrote ≡ not (some_from t c f)
    same (inl h) =
        let p = at (omega arith) in
        let w : some_from t c f ≡ true = true_from_ne_false (some_from t c f) (λ e. true≢false (sym p.1 ∙ none_at t c f e wrote p.0 h)) in
        rw (lt-leb c wrote h, w)
    same (inr h) = rw (le-leb c wrote h, none_from t c f (λ n a b. before n a (omega arith) (omega arith)))

live_is : (f : ℕ → Bool) (t lo u c r wrote : ℕ) → c ≤ r → ((n : ℕ) → t ≤ n → n < wrote → n < r → f n ≡ false) → (wrote < r → (t ≤ wrote) × (f wrote ≡ true)) → (leb lo c && leb c u && leb c wrote) ≡ is_live f t lo u c
live_is f t lo u c r wrote c-r before at = ap (λ b. leb lo c && leb c u && b) (unwritten f t c r wrote c-r before at)

-- ---- the checkpoints up to a step, and behind one

up_to : (k i x : ℕ) → 0 < k → leb (k * i) x ≡ leb i (x / k)
up_to k i x pos = go (cases_lt x (k * i))
  where
    go : (x < k * i) ⊎ (k * i ≤ x) → leb (k * i) x ≡ leb i (x / k)
    go (inl h) = let w : x / k < i = (div-lt_iff_lt-mul pos).1 (rw (mul_comm i k) h) in rw (lt-leb (k * i) x h, lt-leb i (x / k) w)
    go (inr h) = let w : i ≤ x / k = (le-div_iff_mul-le pos).1 (rw (mul_comm i k) h) in rw (le-leb (k * i) x h, le-leb i (x / k) w)

pub after_step : (k t i : ℕ) → 0 < k → leb (suc t) (k * i) ≡ leb (t / k + 1) i
after_step k t i pos = go (cases_lt t (k * i))
  where
    go : (t < k * i) ⊎ (k * i ≤ t) → leb (suc t) (k * i) ≡ leb (t / k + 1) i
    go (inl h) = let w : t / k < i = (div-lt_iff_lt-mul pos).1 (rw (mul_comm i k) h) in rw (le-leb (suc t) (k * i) (omega arith), le-leb (t / k + 1) i (omega arith))
    go (inr h) = let w : i ≤ t / k = (le-div_iff_mul-le pos).1 (rw (mul_comm i k) h) in rw (lt-leb (suc t) (k * i) (omega arith), lt-leb (t / k + 1) i (omega arith))

-- the first checkpoint that is not before a step
pub from_step : (k t i : ℕ) → 0 < k → leb t (k * i) ≡ leb (div_ceil t k) i
from_step k t i pos = go (cases_lt (k * i) t)
  where
    go : (k * i < t) ⊎ (t ≤ k * i) → leb t (k * i) ≡ leb (div_ceil t k) i
    go (inl h) = before (cases_lt i (div_ceil t k))
      where
        before : (i < div_ceil t k) ⊎ (div_ceil t k ≤ i) → leb t (k * i) ≡ leb (div_ceil t k) i
        before (inl l) = rw (lt-leb t (k * i) h, lt-leb (div_ceil t k) i l)
        before (inr l) = let m = mul-le-mul_left k l in absurd (omega (arith, m, mul_comm k (div_ceil t k), (div_ceil_times t k pos).0, h))
    go (inr h) = behind (cases_lt i (div_ceil t k))
      where
        behind : (i < div_ceil t k) ⊎ (div_ceil t k ≤ i) → leb t (k * i) ≡ leb (div_ceil t k) i
        behind (inl l) = let m = mul-le-mul_left k l in absurd (omega (arith, m, mul_comm k (div_ceil t k), mul-suc k i, (div_ceil_times t k pos).1, h))
        behind (inr l) = rw (le-leb t (k * i) h, le-leb (div_ceil t k) i l)

leb_min : (i x y : ℕ) → leb i (min x y) ≡ (leb i x && leb i y)
leb_min i x y = go (cases_lt x i) (cases_lt y i)
  where
    go : (x < i) ⊎ (i ≤ x) → (y < i) ⊎ (i ≤ y) → leb i (min x y) ≡ (leb i x && leb i y)
    go (inl p) q = rw (lt-leb i x p, lt-leb i (min x y) (omega arith))
    go (inr p) (inl q) = rw (le-leb i x p, lt-leb i y q, lt-leb i (min x y) (omega arith))
    go (inr p) (inr q) = rw (le-leb i x p, le-leb i y q, le-leb i (min x y) (omega arith))

within : (k i to wrote count end : ℕ) → 0 < k → i ≤ count → end ≡ min (min to wrote / k) count + 1 → ltb i end ≡ (leb (k * i) to && leb (k * i) wrote)
within k i to wrote count end pos le e = first (cases_lt (min to wrote / k) i) ∙ sym (up_to k i (min to wrote) pos) ∙ leb_min (k * i) to wrote
  where
    first : (min to wrote / k < i) ⊎ (i ≤ min to wrote / k) → ltb i end ≡ leb i (min to wrote / k)
    first (inl h) = rw (lt-leb i (min to wrote / k) h, le-ltb i end (omega (arith, e, le, h)))
    first (inr h) = rw (le-leb i (min to wrote / k) h, lt-ltb i end (omega (arith, e, le, h)))

and_three : (x y z : Bool) → (x && (y && z)) ≡ (x && y && z)
and_three true y z = refl
and_three false y z = refl

-- no checkpoint is set where the first is not below the end
pub none_set : {A : Type 0} (low end i : ℕ) (x y : A) → end ≤ low → y ≡ cond (leb low i && ltb i end) x y
none_set low end i x y h = go (cases_lt i end)
  where
    off : (b : Bool) → y ≡ cond (b && false) x y
    off true = refl
    off false = refl

    go : (i < end) ⊎ (end ≤ i) → y ≡ cond (leb low i && ltb i end) x y
    go (inl l) = rw (lt-leb low i (omega arith))
    go (inr l) = rw (le-ltb i end l) (off (leb low i))

module _ (m : Machine) (k : ℕ) (pos : 0 < k) where
  -- what is kept at the end of a change
  end_is : (f : ℕ → Bool) (t u r wrote : ℕ) (v : m.Value) (kept : Option m.Value) → (r ≤ u → kept ≡ None) → ((n : ℕ) → t ≤ n → n < wrote → n < r → f n ≡ false) → (wrote < r → (t ≤ wrote) × (f wrote ≡ true))
      → cond (leb u wrote) (option_map (λ w. v) kept) kept ≡ cond (some_from t u f) kept (option_map (λ w. v) kept)
  end_is f t u r wrote v kept past before at = go (cases_lt u r)
    where
      nothing : (b c : Bool) (kept : Option m.Value) → kept ≡ None → cond b (option_map (λ w. v) kept) kept ≡ cond c kept (option_map (λ w. v) kept)
      nothing true true kept e = rw e
      nothing true false kept e = rw e
      nothing false true kept e = rw e
      nothing false false kept e = rw e

      turn : (b : Bool) → cond (not b) (option_map (λ w. v) kept) kept ≡ cond b kept (option_map (λ w. v) kept)
      turn true = refl
      turn false = refl

      go : (u < r) ⊎ (r ≤ u) → cond (leb u wrote) (option_map (λ w. v) kept) kept ≡ cond (some_from t u f) kept (option_map (λ w. v) kept)
      go (inl h) = let e = unwritten f t u r wrote (omega arith) before at in rw e (turn (some_from t u f))
      go (inr h) = nothing (leb u wrote) (some_from t u f) kept (past h)

  and_swap : {A : Type 0} (p q : Bool) (x y : A) → cond (p && q) x y ≡ cond (q && p) x y
  and_swap true true x y = refl
  and_swap true false x y = refl
  and_swap false true x y = refl
  and_swap false false x y = refl

  pub spread_near : (old now : Trace m) (a : m.Cell) (v : m.Value) (low end to wrote from first r : ℕ) → now.count ≡ old.count → now.notes ≡ old.notes → k * old.count ≤ r → end ≡ min (min to wrote / k) old.count + 1
      → ((i : ℕ) → i ≤ old.count → now.point (k * i) ≡ cond (leb low i && ltb i end) (m.put a v (old.point (k * i))) (old.point (k * i)))
      → RaisedAt m old now a v to wrote → IsFirstWrite m old a from r wrote → (r ≤ to → old.kept to a ≡ None) → ((i : ℕ) → leb first (k * i) ≡ leb low i)
      → Near m k now (spread m old a v from first to)
  spread_near old now a v low end to wrote from first r count notes fits ends points kept written past lows = record {
    count = count;
    points = at;
    notes = notes;
    kept = λ n b. kept n b
        ∙ ap (λ x. cond (n == to && m.same a b) x (old.kept n b)) (end_is (writes_of m old.notes a) from to r wrote v (old.kept to a) past written.before written.at)
        ∙ and_swap (n == to) (m.same a b) _ (old.kept n b);
  }
    where
      at : (i : ℕ) → i ≤ old.count → now.point (k * i) ≡ patched_point m old a v from first to (k * i)
      at i h =
          let w : k * i ≤ r = omega (arith, mul-le-mul_left k h, fits) in
          let live : (leb low i && ltb i end) ≡ is_live (writes_of m old.notes a) from first to (k * i) =
          ap₂ (λ x y. x && y) (sym (lows i)) (within k i to wrote old.count end pos h ends) ∙ and_three (leb first (k * i)) (leb (k * i) to) (leb (k * i) wrote) ∙ live_is (writes_of m old.notes a) from first to (k * i) r wrote w written.before written.at in
          points i h ∙ rw live

  -- ---- the value kept below an event that is set

  -- after a spread, a value is put below the event at its start, or none
  pub put_near : (old mid now : Trace m) (a : m.Cell) (v : m.Value) (from first to : ℕ) (o : Option m.Value) → Near m k mid (spread m old a v from first to)
      → now.count ≡ mid.count → now.notes ≡ mid.notes → ((i : ℕ) → i ≤ mid.count → now.point (k * i) ≡ mid.point (k * i)) → KeptPut m mid now from a o
      → Near m k now (keeping m (spread m old a v from first to) a from o)
  put_near old mid now a v from first to o near count notes points put = record {
    count = count ∙ near.count;
    points = λ i h. points i (let e = near.count in rw e h) ∙ near.points i h;
    notes = notes ∙ near.notes;
    kept = λ n b. put n b ∙ ap (λ x. cond (n == from && m.same a b) o x) (near.kept n b) ∙ and_swap (n == from) (m.same a b) o _;
  }

  -- nothing is put below it where nothing was kept
  pub none_near : (old mid : Trace m) (a : m.Cell) (v : m.Value) (from first to : ℕ) → ((a b : m.Cell) → m.same a b ≡ true → a ≡ b) → old.kept from a ≡ None
      → Near m k mid (spread m old a v from first to) → Near m k mid (keeping m (spread m old a v from first to) a from None)
  none_near old mid a v from first to same_is none near = record {
    count = near.count;
    points = near.points;
    notes = near.notes;
    kept = λ n b. near.kept n b ∙ go n b (m.same a b) refl (cases_eq n from) (cases_eq n to);
  }
    where
      ends : (c : Bool) (o : Option m.Value) → o ≡ None → cond c o (option_map (λ w. v) o) ≡ None
      ends true o e = e
      ends false o e = rw e

      at_end : from ≡ to → kept_at_end m old a v from to ≡ None
      at_end e = ends (some_from from to (writes_of m old.notes a)) (old.kept to a) (ap (λ x. old.kept x a) (sym e) ∙ none)

      go : (n : ℕ) (b : m.Cell) (s : Bool) → m.same a b ≡ s → (n ≡ from) ⊎ (n ≢ from) → (n ≡ to) ⊎ (n ≢ to)
          → cond (s && n == to) (kept_at_end m old a v from to) (old.kept n b) ≡ cond (s && n == from) None (cond (s && n == to) (kept_at_end m old a v from to) (old.kept n b))
      go n b false e p q = refl
      go n b true e (inr x) q = rw (ne_eqb n from x)
      go n b true e (inl x) (inl y) = rw (eq-eqb n from x, eq-eqb n to y) (at_end (sym x ∙ y))
      go n b true e (inl x) (inr y) = rw (eq-eqb n from x, ne_eqb n to y) (ap₂ (λ i c. old.kept i c) x (sym (same_is a b e)) ∙ none)

  pub nothing_below : (old : Trace m) (a : m.Cell) (t last : ℕ) → None ≡ kept_by_poke m k old a t last → old.kept t a ≡ None
  nothing_below old a t last h = go (old.kept t a) _ h
    where
      go : (o x : Option m.Value) → None ≡ cond (is_some o) o x → o ≡ None
      go None x e = refl
      go (Some w) x e = sym e

  none_either : (b : Bool) (o : Option m.Value) → o ≡ None → None ≡ cond b o None
  none_either true o e = sym e
  none_either false o e = refl

  pub below_none : (v : Trace m) (a : m.Cell) (t u : ℕ) → v.kept t a ≡ None → (t ≤ u → v.kept u a ≡ None) → k * v.count < next_checkpoint k t → None ≡ kept_by_poke m k v a t u
  below_none v a t u e f h = rw (e, lt-leb (next_checkpoint k t) (k * v.count) h) (go (cases_lt u t))
    where
      go : (u < t) ⊎ (t ≤ u) → None ≡ cond (leb t u && (ltb u (next_checkpoint k t) && not (some_from t u (writes_of m v.notes a)))) (v.kept u a) None
      go (inl before) = rw (lt-leb t u before) refl
      go (inr l) = none_either (leb t u && (ltb u (next_checkpoint k t) && not (some_from t u (writes_of m v.notes a)))) (v.kept u a) (f l)

  pub below_is : (v : Trace m) (a : m.Cell) (t u wrote r : ℕ) → next_checkpoint k t ≤ k * v.count → k * v.count ≤ r → v.kept t a ≡ None → IsFirstWrite m v a t r wrote
      → cond (leb (next_checkpoint k t) u && leb (next_checkpoint k t) wrote) (Some (m.get a (v.point (next_checkpoint k t)))) (cond (leb t u && (ltb u (next_checkpoint k t) && leb u wrote)) (v.kept u a) None) ≡ kept_by_poke m k v a t u
  below_is v a t u wrote r in_cut fits none first =
      let live = live_is (writes_of m v.notes a) t (suc t) u (next_checkpoint k t) r wrote (omega arith) first.before first.at in
      let low : suc t ≤ next_checkpoint k t = next_above k t pos in
      rw (none, le-leb (next_checkpoint k t) (k * v.count) in_cut, ← live, le-leb (suc t) (next_checkpoint k t) low)
      (ap (λ o. cond (leb (next_checkpoint k t) u && leb (next_checkpoint k t) wrote) (Some (m.get a (v.point (next_checkpoint k t)))) o) (go (cases_lt u (next_checkpoint k t))))
    where
      go : (u < next_checkpoint k t) ⊎ (next_checkpoint k t ≤ u)
          → cond (leb t u && (ltb u (next_checkpoint k t) && leb u wrote)) (v.kept u a) None ≡ cond (leb t u && (ltb u (next_checkpoint k t) && not (some_from t u (writes_of m v.notes a)))) (v.kept u a) None
      go (inl h) = let e = unwritten (writes_of m v.notes a) t u r wrote (omega (arith, h, in_cut, fits)) first.before first.at in rw e
      go (inr h) = rw (le-ltb u (next_checkpoint k t) h)

pub first_of : {A : Type 0} (x y : Bool) (a b : A) → x ≡ true → y ≡ true → a ≡ cond (x && y) a b
first_of x y a b e f = rw (e, f)

pub second_of : {A : Type 0} (x y s z w : Bool) (a b d : A) → (x && y) ≡ false → s ≡ true → z ≡ true → w ≡ true → b ≡ cond (x && y) a (cond (s && (z && w)) b d)
second_of x y s z w a b d e l f h = rw (e, l, f, h)

pub third_of : {A : Type 0} (x y s z w : Bool) (a b d : A) → (x && y) ≡ false → (s && (z && w)) ≡ false → d ≡ cond (x && y) a (cond (s && (z && w)) b d)
third_of x y s z w a b d e f = rw (e, f)

pub next_index : (k t : ℕ) → 0 < k → next_checkpoint k t / k ≡ t / k + 1
next_index k t pos =
    let e : k * (t / k + 1) ≡ next_checkpoint k t = omega arith in
    let q = mul-div_cancel_left (t / k + 1) pos in
    rw e at q

pub div_along : (k count t u : ℕ) → 0 < k → count ≤ t / k → t ≤ u → count ≤ u / k
div_along k count t u pos h l = let a : count * k ≤ t = (le-div_iff_mul-le pos).0 h in (le-div_iff_mul-le pos).1 (omega arith)
