-- The states of the run after an edit, up to its first read.
use Rattle.std.proofs.Common.{◌≡◌, ℕ, suc, ◌<◌, ◌≤◌, Bool, true, false, not, ◌&&◌, cond, leb, List, [], ◌∷◌, refl, ◌∙◌, ap, arith, leb-true}
use Rattle.std.proofs.lemmas.Bool.{or_parts, and_parts}
use Rattle.sv8_history.specs.Machine.{Machine, Run, state_at, footprint_at, writes_of}
use Rattle.sv8_history.specs.Framed.{IsFramed}
use Rattle.sv8_history.specs.Trace.{some_from}
use Rattle.sv8_history.specs.Changes.{Cause, Image, Poke, Clear, Change, shown_from, IsChanged, IsEdited, IsPlanned, IsApart, ArePlanned, is_live, value_of, with_changes}
use Rattle.sv8_history.specs.Reads.{reads_change, reads_edit}
use Rattle.sv8_history.specs.Laws.{UnreadAgrees}
use Rattle.sv8_history.proofs.Spans.{some_from-like}
use Rattle.sv8_history.proofs.Silent.{silent_same, silent_state}
use Rattle.sv8_history.proofs.Spread.{Shift, Turns, mixed, same_footprints}
use Rattle.sv8_history.proofs.Kept.{get_other}
use Rattle.sv8_history.proofs.Turning.{shift_of, turns_of}
use Rattle.sv8_history.proofs.Others.{planned_all}
use Rattle.sv8_history.proofs.FirstReads.{rest_quiet, ahead}

live_like : (f g : ℕ → Bool) (t lo u n : ℕ) → ((j : ℕ) → j < n → f j ≡ g j) → is_live f t lo u n ≡ is_live g t lo u n
live_like f g t lo u n h = let e = some_from-like t n f g h in rw e

cond_live : (m : Machine) (b d : Bool) (a : m.Cell) (v w : m.Value) (s : m.State) → b ≡ d → (d ≡ true → v ≡ w) → cond b (m.put a v s) s ≡ cond d (m.put a w s) s
cond_live m b true a v w s p q = let e = q refl in rw (p, e)
cond_live m b false a v w s p q = rw p

value_parts : (m : Machine) → IsFramed m → (x : Shift m) (old mid : Run m) (r : ℕ) → Turns m x old mid r → (b : m.Cell) (t u : ℕ) (d : Cause m.Value)
    → m.same x.cell b ≡ false → (n : ℕ) → n ≤ r → leb (shown_from m (record { cell = b; from = t; to = u; cause = d })) n ≡ true
    → value_of m mid (record { cell = b; from = t; to = u; cause = d }) ≡ value_of m old (record { cell = b; from = t; to = u; cause = d })
value_parts m law x old mid r turns b t u (Image v) other n l e = refl
value_parts m law x old mid r turns b t u (Poke v) other n l e = refl
value_parts m law x old mid r turns b t u Clear other n l e =
    let p : suc t ≤ n = leb-true (suc t) n e in get_other m law x old mid r turns b other t (omega arith)

with_changes_like : (m : Machine) → IsFramed m → (x : Shift m) (old mid : Run m) (r : ℕ) → Turns m x old mid r → (n : ℕ) → n ≤ r
    → (cs : List (Change m)) → IsApart m x.cell cs → (s : m.State) → with_changes m mid cs n s ≡ with_changes m old cs n s
with_changes_like m law x old mid r turns n l [] apart s = refl
with_changes_like m law x old mid r turns n l (d ∷ ds) apart s =
    with_changes_like m law x old mid r turns n l ds apart.1 (cond (is_live (writes_of m (footprint_at m mid) d.cell) d.from (shown_from m d) d.to n) (m.put d.cell (value_of m mid d) s) s) ∙ ap (with_changes m old ds n)
    (cond_live
    m
    (is_live (writes_of m (footprint_at m mid) d.cell) d.from (shown_from m d) d.to n)
    (is_live (writes_of m (footprint_at m old) d.cell) d.from (shown_from m d) d.to n)
    d.cell
    (value_of m mid d)
    (value_of m old d)
    s
    (live_like (writes_of m (footprint_at m mid) d.cell) (writes_of m (footprint_at m old) d.cell) d.from (shown_from m d) d.to n (λ j b. (same_footprints m law x old mid r turns j (omega arith)).writes d.cell))
    (λ e. value_parts m law x old mid r turns d.cell d.from d.to d.cause apart.0 n l (and_parts (leb (shown_from m d) n) (leb n d.to) (and_parts (leb (shown_from m d) n && leb n d.to) (not (some_from d.from n (writes_of m (footprint_at m old) d.cell))) e).0).0))

states_step : (m : Machine) → IsFramed m → (old mid : Run m) (r : ℕ) (c : Change m) (cs : List (Change m)) → IsPlanned m old r c → IsApart m c.cell cs
    → IsChanged m c old mid → ((n : ℕ) → n < r → reads_change m (footprint_at m old) c n ≡ false) → (n : ℕ) → n ≤ r
    → with_changes m mid cs n (state_at m mid n) ≡ with_changes m old (c ∷ cs) n (state_at m old n)
states_step m law old mid r c cs plan apart change quiet n l =
    with_changes_like m law (shift_of m old c) old mid r turns n l cs apart (state_at m mid n) ∙ ap (with_changes m old cs n) (mixed m law (shift_of m old c) old mid r turns n l)
  where
    turns : Turns m (shift_of m old c) old mid r
    turns = turns_of m law old mid r c plan change quiet

states : (m : Machine) → IsFramed m → (old new : Run m) (cs : List (Change m)) (r : ℕ) → ArePlanned m old r cs → IsEdited m cs old new
    → ((n : ℕ) → n < r → reads_edit m (footprint_at m old) cs n ≡ false) → (n : ℕ) → n ≤ r → state_at m new n ≡ with_changes m old cs n (state_at m old n)
states m law old new [] r plan edit quiet n l = silent_state m old new r (silent_same m old new r edit.0 (λ j d. edit.1 j)) n l
states m law old new (c ∷ cs) r plan edit quiet n l =
    states m law edit.0 new cs r (planned_all m law old edit.0 r c (plan.0.has, plan.0.fits) edit.1 cs plan.1 plan.2) edit.2 (rest_quiet m law old edit.0 r c cs plan.0 edit.1 quiet) n l ∙ states_step m law old edit.0 r c cs plan.0 plan.1 edit.1 (λ j d. (or_parts (reads_change m (footprint_at m old) c j) (reads_edit m (footprint_at m old) cs j) (quiet j d)).0) n l

pub unread_agrees : (m : Machine) → UnreadAgrees m
unread_agrees m law old new cs r plan edit quiet = (states m law old new cs r plan edit quiet, ahead m law old new cs r plan edit quiet)
