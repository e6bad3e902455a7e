-- What patches make of traces that show the same.
use Rattle.std.proofs.Common.{◌≡◌, ℕ, suc, ◌+◌, ◌*◌, ◌/◌, ◌<◌, ◌≤◌, List, [], ◌∷◌, Bool, true, false, not, ◌&&◌, cond, leb, ltb, Option, Some, None, is_some, refl, sym, ◌∙◌, ap, arith, leb-true}
use Rattle.std.proofs.lemmas.Bool.{true≢false}
use Rattle.std.proofs.Math.Nat.{le_of_mul-le-mul_left}
use Rattle.sv8_history.specs.Machine.{Machine, SameFootprint, Notes, writes_of}
use Rattle.sv8_history.specs.Trace.{Trace, Agrees, Near, some_from, next_checkpoint}
use Rattle.sv8_history.specs.Changes.{Change, Cause, Image, Poke, Clear, is_live}
use Rattle.sv8_history.specs.Patches.{patched_point, kept_at_end, kept_by_poke, spread, set_poke, uncover, patch, patch_all}
use Rattle.sv8_history.proofs.Footprints.{footprint_same}

module _ (m : Machine) (k : ℕ) where
  pub near_same : (v : Trace m) → Near m k v v
  near_same v = record { count = refl; points = λ i h. refl; notes = refl; kept = λ n a. refl }

  pub near_along : (u v w : Trace m) → Near m k u v → Near m k v w → Near m k u w
  near_along u v w p q = record {
    count = p.count ∙ q.count;
    points = λ i h. p.points i (let e = q.count in rw e h) ∙ q.points i h;
    notes = p.notes ∙ q.notes;
    kept = λ n a. p.kept n a ∙ q.kept n a;
  }

  -- so they agree
  pub near_agrees : (v w : Trace m) → Near m k v w → Agrees m k w v
  near_agrees v w p = record {
    count = p.count;
    points = p.points;
    notes = λ n h. same n;
    kept = p.kept;
  }
    where
      same : (n : ℕ) → SameFootprint (v.notes n) (w.notes n)
      same n = let e = ap (λ (f : Notes m). f n) p.notes in rw e (footprint_same (w.notes n))

  pub agrees_along : (u v w : Trace m) → Agrees m k u v → Agrees m k v w → Agrees m k u w
  agrees_along u v w p q = record {
    count = q.count ∙ p.count;
    points = λ i h. q.points i (let e = p.count in rw e h) ∙ p.points i h;
    notes = λ n h. record {
      reads = λ a. (q.notes n (let e = p.count in rw e h)).reads a ∙ (p.notes n h).reads a;
      writes = λ a. (q.notes n (let e = p.count in rw e h)).writes a ∙ (p.notes n h).writes a;
      uses = λ a. (q.notes n (let e = p.count in rw e h)).uses a ∙ (p.notes n h).uses a;
      takes = (q.notes n (let e = p.count in rw e h)).takes ∙ (p.notes n h).takes;
    };
    kept = λ n a. q.kept n a ∙ p.kept n a;
  }

  module _ (pos : 0 < k) (v w : Trace m) (h : Near m k v w) where
    wrote : (a : m.Cell) → writes_of m v.notes a ≡ writes_of m w.notes a
    wrote a = ap (λ (f : Notes m). writes_of m f a) h.notes

    patched : (a : m.Cell) (x : m.Value) (t first last i : ℕ) → i ≤ w.count → patched_point m v a x t first last (k * i) ≡ patched_point m w a x t first last (k * i)
    patched a x t first last i b = rw (wrote a, h.points i b)

    at_end : (a : m.Cell) (x : m.Value) (t last : ℕ) → kept_at_end m v a x t last ≡ kept_at_end m w a x t last
    at_end a x t last = rw (wrote a, h.kept last a)

    -- the point of a recorded next checkpoint
    next_at : (t : ℕ) → next_checkpoint k t ≤ k * w.count → v.point (next_checkpoint k t) ≡ w.point (next_checkpoint k t)
    next_at t b =
        let e : k * (t / k + 1) ≡ next_checkpoint k t = omega arith in
        let q : k * (t / k + 1) ≤ k * w.count = omega arith in
        let r = h.points (t / k + 1) (le_of_mul-le-mul_left q pos) in
        rw e at r

    by_poke : (a : m.Cell) (t last : ℕ) → kept_by_poke m k v a t last ≡ kept_by_poke m k w a t last
    by_poke a t last =
        rw (wrote a, h.kept t a, h.kept last a, h.count)
        (ap (λ o. cond (is_some (w.kept t a)) (w.kept t a) o)
        (one (leb (next_checkpoint k t) (k * w.count)) (is_live (writes_of m w.notes a) t (suc t) last (next_checkpoint k t)) (cond (leb t last && (ltb last (next_checkpoint k t) && not (some_from t last (writes_of m w.notes a)))) (w.kept last a) None) refl))
      where
        one : (b l : Bool) (o : Option m.Value) → leb (next_checkpoint k t) (k * w.count) ≡ b
            → cond (b && l) (Some (m.get a (v.point (next_checkpoint k t)))) o ≡ cond (b && l) (Some (m.get a (w.point (next_checkpoint k t)))) o
        one true l o e = let q = next_at t (leb-true (next_checkpoint k t) (k * w.count) e) in rw q
        one false l o e = refl

    pub near_spread : (a : m.Cell) (x : m.Value) (t first last : ℕ) → Near m k (spread m v a x t first last) (spread m w a x t first last)
    near_spread a x t first last = record {
      count = h.count;
      points = patched a x t first last;
      notes = h.notes;
      kept = λ n b. rw (at_end a x t last, h.kept n b);
    }

    near_set : (a : m.Cell) (x : m.Value) (t last : ℕ) → Near m k (set_poke m k v a x t last) (set_poke m k w a x t last)
    near_set a x t last = record {
      count = h.count;
      points = patched a x t (suc t) last;
      notes = h.notes;
      kept = λ n b. rw (at_end a x t last, by_poke a t last, h.kept n b);
    }

    near_uncover : (a : m.Cell) (t last : ℕ) (o p : Option m.Value) → o ≡ p → Near m k (uncover m v a t last o) (uncover m w a t last p)
    near_uncover a t last None None e = h
    near_uncover a t last (Some x) p e = rw (← e) (record {
      count = h.count;
      points = patched a x t (suc t) last;
      notes = h.notes;
      kept = λ n b. rw (at_end a x t last, h.kept n b);
    })
    near_uncover a t last None (Some x) e = absurd (true≢false (sym (ap (λ o. is_some o) e)))

    pub near_patch : (c : Change m) → Near m k (patch m k v c) (patch m k w c)
    near_patch c = by c.cause refl
      where
        by : (x : Cause m.Value) → c.cause ≡ x → Near m k (patch m k v c) (patch m k w c)
        by (Image x) e = rw e (near_spread c.cell x c.from c.from c.to)
        by (Poke x) e = rw e (near_set c.cell x c.from c.to)
        by Clear e = rw e (near_uncover c.cell c.from c.to (v.kept c.from c.cell) (w.kept c.from c.cell) (h.kept c.from c.cell))

  pub near_all : 0 < k → (cs : List (Change m)) (v w : Trace m) → Near m k v w → Near m k (patch_all m k v cs) (patch_all m k w cs)
  near_all pos [] v w h = h
  near_all pos (c ∷ cs) v w h = near_all pos cs (patch m k v c) (patch m k w c) (near_patch pos v w h c)
