-- A change is undone by another: so it turns the new run into the old one, too.
use Rattle.std.proofs.Common.{◌≡◌, ℕ, suc, ◌<◌, ◌≤◌, false, Option, Some, None, is_some, unwrap_or, refl, sym, ◌∙◌, ap, arith}
use Rattle.sv8_history.specs.Machine.{Machine, Run, state_at, footprint_at, reads_of, writes_of}
use Rattle.sv8_history.specs.Framed.{IsFramed}
use Rattle.sv8_history.specs.Trace.{some_from}
use Rattle.sv8_history.specs.Changes.{Cause, Image, Poke, Clear, Change, IsRepoked, IsReimaged, IsChanged, IsFitting, IsNextEvent, IsPlanned}
use Rattle.sv8_history.specs.Reads.{reads_change}
use Rattle.sv8_history.specs.Laws.{SameFootprints}
use Rattle.sv8_history.proofs.Footprints.{footprint_back}
use Rattle.sv8_history.proofs.Spread.{Shift, Turns, same_footprints, has_at}
use Rattle.sv8_history.proofs.Turning.{turns_by_poke, turns_by_source, unread_of}

has_parts : (m : Machine) → IsFramed m → (old mid : Run m) (a : m.Cell) (t u : ℕ) (d : Cause m.Value)
    → m.Has a old.start × IsFitting m (record { cell = a; from = t; to = u; cause = d }) → IsChanged m (record { cell = a; from = t; to = u; cause = d }) old mid
    → (b : m.Cell) → m.Has b old.start → m.Has b mid.start
has_parts m law old mid a t u (Image v) fits change b has = let p = change.1 in let q = p.start in rw q (law.cells.has_put b a v old.start has fits.0 fits.1)
has_parts m law old mid a t u (Poke v) fits change b has = let q = change.start in rw q has
has_parts m law old mid a t u Clear fits change b has = let p = change.1 in let q = p.start in rw q has

pub has_start : (m : Machine) → IsFramed m → (old mid : Run m) (c : Change m) → m.Has c.cell old.start × IsFitting m c → IsChanged m c old mid → (b : m.Cell)
    → m.Has b old.start → m.Has b mid.start
has_start m law old mid c fits change b has = has_parts m law old mid c.cell c.from c.to c.cause fits change b has

back_by_poke : (m : Machine) → IsFramed m → (old mid : Run m) (r : ℕ) (a : m.Cell) (t u : ℕ) (p : Option m.Value) → m.Has a old.start
    → IsRepoked m a t p old mid → IsNextEvent m old a (suc t) u r
    → ((n : ℕ) → t ≤ n → n < u → n < r → some_from t n (writes_of m (footprint_at m mid) a) ≡ false → reads_of m (footprint_at m mid) a n ≡ false)
    → (x : Shift m) × Turns m x mid old r
back_by_poke m law old mid r a t u p has change next unread =
    (record { cell = a; value = value; from = t; first = suc t; last = u }, turns_by_poke m law a value t u r (m.poke a (old.events t)) mid old there (fits (m.poke a (old.events t)) refl) undo later refl unread)
  where
    there : m.Has a mid.start
    there = let e = change.start in rw e has

    value : m.Value
    value = unwrap_or (m.poke a (old.events t)) (m.get a (state_at m mid t))

    fits : (q : Option m.Value) → m.poke a (old.events t) ≡ q → m.Fits a (unwrap_or q (m.get a (state_at m mid t)))
    fits None e = law.cells.get_fits a (state_at m mid t) (has_at m law a mid (let i = change.start in rw i has) t)
    fits (Some w) e = law.events.poke_fits a w (old.events t) (old.valid t) e

    undo : IsRepoked m a t (m.poke a (old.events t)) mid old
    undo = record { start = sym change.start; here = law.events.alike_back a (old.events t) (mid.events t) change.here; poke = refl; elsewhere = λ n w. sym (change.elsewhere n w) }

    later : IsNextEvent m mid a (suc t) u r
    later = record {
      after = next.after;
      none_between = λ n b d. ap (m.poke a) (change.elsewhere n (λ w. omega arith)) ∙ next.none_between n b d;
      there = λ l. ap (λ e. is_some (m.poke a e)) (change.elsewhere u (λ w. let b = next.after in omega arith)) ∙ next.there l;
    }

back_parts : (m : Machine) → IsFramed m → (old mid : Run m) (r : ℕ) (a : m.Cell) (t u : ℕ) (d : Cause m.Value)
    → IsPlanned m old r (record { cell = a; from = t; to = u; cause = d }) → IsChanged m (record { cell = a; from = t; to = u; cause = d }) old mid
    → ((n : ℕ) → t ≤ n → n < u → n < r → some_from t n (writes_of m (footprint_at m mid) a) ≡ false → reads_of m (footprint_at m mid) a n ≡ false)
    → (x : Shift m) × Turns m x mid old r
back_parts m law old mid r a t u (Poke v) plan change unread =
    back_by_poke m law old mid r a t u (Some v) plan.has change plan.next unread
back_parts m law old mid r a t u Clear plan change unread =
    back_by_poke m law old mid r a t u None plan.has change.1 plan.next unread
back_parts m law old mid r a t u (Image v) plan change unread = (
  record { cell = a; value = m.get a old.start; from = 0; first = 0; last = u },
  turns_by_source
      m a (m.get a old.start) u r mid old
      (has_parts m law old mid a t u (Image v) (plan.has, plan.fits) change a plan.has)
      (law.cells.get_fits a old.start plan.has)
      undo
      (record { after = omega arith; none_between = λ n p q. ap (m.poke a) (image.events n) ∙ plan.next.none_between n (omega (arith, zero_from)) q; there = λ l. ap (λ e. is_some (m.poke a e)) (image.events u) ∙ plan.next.there l })
      (λ n p q l w. unread n (omega (arith, zero_from)) q l (rw zero_from w)),
)
  where
    zero_from : t ≡ 0
    zero_from = change.0

    image : IsReimaged m a v old mid
    image = change.1

    undo : IsReimaged m a (m.get a old.start) mid old
    undo = record {
      start = let p = image.start in let e : m.put a (m.get a old.start) (m.put a v old.start) ≡ old.start = law.cells.put-put a (m.get a old.start) v old.start ∙ law.cells.put-get a old.start in sym (ap (m.put a (m.get a old.start)) p ∙ e);
      events = λ n. let p = image in sym (p.events n);
    }

pub back_one : (m : Machine) → IsFramed m → (old mid : Run m) (r : ℕ) (c : Change m) → IsPlanned m old r c → IsChanged m c old mid
    → ((n : ℕ) → n < r → reads_change m (footprint_at m mid) c n ≡ false) → SameFootprints m old mid r
back_one m law old mid r c plan change unread =
    go (back_parts m law old mid r c.cell c.from c.to c.cause plan change (λ n p q l w. unread_of m (footprint_at m mid) c n (unread n l) p q w))
  where
    go : (x : Shift m) × Turns m x mid old r → SameFootprints m old mid r
    go p n l =
        footprint_back (footprint_at m old n) (footprint_at m mid n) (same_footprints m law p.0 mid old r p.1 n l)
