-- A change turns one run into the other.
use Rattle.std.proofs.Common.{◌≡◌, ℕ, zero, suc, ◌<◌, ◌≤◌, Bool, true, false, not, ◌&&◌, cond, Option, Some, None, unwrap_or, refl, sym, subst, arith, inl, inr, ◌⊎◌, le-leb, lt-ltb}
use Rattle.std.proofs.lemmas.Bool.{cases_lt}
use Rattle.sv8_history.specs.Machine.{SameFootprint, Machine, Run, Notes, state_at, footprint_at, reads_of, writes_of}
use Rattle.sv8_history.specs.Framed.{IsFramed}
use Rattle.sv8_history.specs.Trace.{some_from}
use Rattle.sv8_history.specs.Changes.{Cause, Image, Poke, Clear, Change, shown_from, IsRepoked, IsReimaged, IsChanged, IsNextEvent, IsPlanned, value_of}
use Rattle.sv8_history.specs.Reads.{reads_change}
use Rattle.sv8_history.proofs.Footprints.{footprint_same}
use Rattle.sv8_history.proofs.Spans.{none_from}
use Rattle.sv8_history.proofs.Spread.{Shift, Turns, has_at}

-- a change of the cause `t`, that a new poke or a cleared one makes: the states before it, and the first after it
pub states_before : (m : Machine) (a : m.Cell) (t : ℕ) (p : Option m.Value) (old new : Run m) → IsRepoked m a t p old new → (n : ℕ) → n ≤ t
    → state_at m new n ≡ state_at m old n
states_before m a t p old new edit zero h = edit.start
states_before m a t p old new edit (suc n) h =
    let i = states_before m a t p old new edit n (omega arith) in
    let e = edit.elsewhere n (λ w. omega arith) in
    cc

pub turns_by_poke : (m : Machine) → IsFramed m → (a : m.Cell) (v : m.Value) (t u r : ℕ) (p : Option m.Value) (old new : Run m) → m.Has a old.start
    → m.Fits a v → IsRepoked m a t p old new → IsNextEvent m old a (suc t) u r → v ≡ unwrap_or p (m.get a (state_at m old t))
    → ((n : ℕ) → t ≤ n → n < u → n < r → some_from t n (writes_of m (footprint_at m old) a) ≡ false → reads_of m (footprint_at m old) a n ≡ false)
    → Turns m (record { cell = a; value = v; from = t; first = suc t; last = u }) old new r
turns_by_poke m law a v t u r p old new has fits edit next value unread = record {
  has = has;
  fits = fits;
  from-first = omega arith;
  first-last = next.after;
  before = λ n h. states_before m a t p old new edit n (omega arith);
  footprint_before = λ n h k. footprint n k (cases_lt n t) h;
  base = λ h.
      let s = states_before m a t p old new edit t (omega arith) in
      let q = law.quiet a (m.get a (state_at m old t)) (old.events t) (new.events t) (state_at m old t) (old.valid t) (new.valid t) (has_at m law a old has t) (law.cells.get_fits a (state_at m old t) (has_at m law a old has t)) edit.here (no_read h) in
      let q1 = rw (edit.poke, law.cells.put-get) at q in
      let q2 : m.step (new.events t) (state_at m old t) ≡ cond (writes_of m (footprint_at m old) a t) (m.step (old.events t) (state_at m old t)) (m.put a v (m.step (old.events t) (state_at m old t))) = rw value q1 in
      let none : some_from t t (writes_of m (footprint_at m old) a) ≡ false = none_from t t (writes_of m (footprint_at m old) a) (λ n b c. absurd (omega arith)) in
      first t (omega arith) s none q2;
  same_events = λ n h. edit.elsewhere n (λ w. omega arith);
  unpoked = λ n h k. next.none_between n h k;
  poked = next.there;
  unread = unread;
}
  where
    no_read : suc t ≤ r → reads_of m (footprint_at m old) a t ≡ false
    no_read h = unread t (omega arith) (let b = next.after in omega arith) h (none_from t t (writes_of m (footprint_at m old) a) (λ n b c. absurd (omega arith)))

    footprint : (n : ℕ) → n < r → (n < t) ⊎ (t ≤ n) → n < suc t → SameFootprint (footprint_at m new n) (footprint_at m old n)
    footprint n k (inl h) l =
        let s = states_before m a t p old new edit n (omega arith) in
        let e = edit.elsewhere n (λ w. omega arith) in
        rw (footprint_at, s, e) (footprint_same (footprint_at m old n))
    footprint n k (inr h) l =
        let at_t : n ≡ t = omega arith in
        let s = states_before m a t p old new edit t (omega arith) in
        let q = law.quiet_footprint a (m.get a (state_at m old t)) (old.events t) (new.events t) (state_at m old t) (old.valid t) (new.valid t) (has_at m law a old has t) (law.cells.get_fits a (state_at m old t) (has_at m law a old has t)) edit.here (no_read (omega arith)) in
        let q2 = rw law.cells.put-get at q in
        rw (footprint_at, at_t) (rw s q2)

    first : (j : ℕ) → t ≤ j → state_at m new j ≡ state_at m old j → some_from t j (writes_of m (footprint_at m old) a) ≡ false
        → m.step (new.events j) (state_at m old j) ≡ cond (writes_of m (footprint_at m old) a j) (m.step (old.events j) (state_at m old j)) (m.put a v (m.step (old.events j) (state_at m old j)))
        → state_at m new (suc j) ≡ cond (some_from t (suc j) (writes_of m (footprint_at m old) a)) (state_at m old (suc j)) (m.put a v (state_at m old (suc j)))
    first j l s none q =
        let i : m.step (new.events j) (state_at m new j) ≡ cond (writes_of m (footprint_at m old) a j) (m.step (old.events j) (state_at m old j)) (m.put a v (m.step (old.events j) (state_at m old j))) = rw s q in
        rw (none, le-leb t j l) i

pub turns_by_source : (m : Machine) (a : m.Cell) (v : m.Value) (u r : ℕ) (old new : Run m) → m.Has a old.start → m.Fits a v → IsReimaged m a v old new
    → IsNextEvent m old a 0 u r
    → ((n : ℕ) → 0 ≤ n → n < u → n < r → some_from 0 n (writes_of m (footprint_at m old) a) ≡ false → reads_of m (footprint_at m old) a n ≡ false)
    → Turns m (record { cell = a; value = v; from = 0; first = 0; last = u }) old new r
turns_by_source m a v u r old new has fits edit next unread = record {
  has = has;
  fits = fits;
  from-first = omega arith;
  first-last = next.after;
  before = λ n h. absurd (omega arith);
  footprint_before = λ n h k. absurd (omega arith);
  base = λ h. edit.start;
  same_events = λ n h. edit.events n;
  unpoked = λ n h k. next.none_between n h k;
  poked = next.there;
  unread = unread;
}

-- no step reads the cell as long as the change lasts and is not written over
pub unread_of : (m : Machine) (notes : Notes m) (c : Change m) (n : ℕ) → reads_change m notes c n ≡ false → c.from ≤ n → n < c.to
    → some_from c.from n (writes_of m notes c.cell) ≡ false → reads_of m notes c.cell n ≡ false
unread_of m notes c n h a b w =
    let q = rw (le-leb c.from n a, lt-ltb n c.to b, w) at h in
    go (reads_of m notes c.cell n) (m.ends_search c.cell) q
  where
    go : (r s : Bool) → (r && not (s && false)) ≡ false → r ≡ false
    go true true e = e
    go true false e = e
    go false s e = refl

abbrev pub shift_of : (m : Machine) → Run m → Change m → Shift m
shift_of m old c = record { cell = c.cell; value = value_of m old c; from = c.from; first = shown_from m c; last = c.to }

turns_parts : (m : Machine) → IsFramed m → (old new : Run m) (r : ℕ) (a : m.Cell) (t u : ℕ) (d : Cause m.Value)
    → IsPlanned m old r (record { cell = a; from = t; to = u; cause = d }) → IsChanged m (record { cell = a; from = t; to = u; cause = d }) old new
    → ((n : ℕ) → t ≤ n → n < u → n < r → some_from t n (writes_of m (footprint_at m old) a) ≡ false → reads_of m (footprint_at m old) a n ≡ false)
    → Turns m (shift_of m old (record { cell = a; from = t; to = u; cause = d })) old new r
turns_parts m law old new r a t u (Poke v) plan change unread =
    turns_by_poke m law a v t u r (Some v) old new plan.has (law.events.poke_fits a v (new.events t) (new.valid t) change.poke) change plan.next refl unread
turns_parts m law old new r a t u Clear plan change unread =
    turns_by_poke m law a (m.get a (state_at m old t)) t u r None old new plan.has (law.cells.get_fits a (state_at m old t) (has_at m law a old plan.has t)) change.1 plan.next refl unread
turns_parts m law old new r a t u (Image v) plan change unread = go t change.0 plan.next.after plan.next.none_between unread
  where
    go : (j : ℕ) → j ≡ 0 → j ≤ u → ((n : ℕ) → j ≤ n → n < u → m.poke a (old.events n) ≡ None)
        → ((n : ℕ) → j ≤ n → n < u → n < r → some_from j n (writes_of m (footprint_at m old) a) ≡ false → reads_of m (footprint_at m old) a n ≡ false)
        → Turns m (record { cell = a; value = v; from = j; first = j; last = u }) old new r
    go j e after none quiet =
        subst (λ i. Turns m (record { cell = a; value = v; from = i; first = i; last = u }) old new r) (sym e)
        (turns_by_source
        m a v u r old new plan.has plan.fits change.1
        (record { after = omega arith; none_between = λ n p q. none n (omega arith) q; there = plan.next.there })
        (λ n p q l w. quiet n (omega arith) q l (rw e w)))

pub turns_of : (m : Machine) → IsFramed m → (old new : Run m) (r : ℕ) (c : Change m) → IsPlanned m old r c → IsChanged m c old new
    → ((n : ℕ) → n < r → reads_change m (footprint_at m old) c n ≡ false) → Turns m (shift_of m old c) old new r
turns_of m law old new r c plan change unread =
    turns_parts m law old new r c.cell c.from c.to c.cause plan change (λ n p q l w. unread_of m (footprint_at m old) c n (unread n l) p q w)
