-- A cell holds what was put there last, and to put something changes no other cell.
use Rattle.std.proofs.Common.{◌≡◌, ◌≢◌, ℕ, ◌==◌, Bool, false, List, length, get_or, set, refl, sym, ◌∙◌, ap, arith, inl, inr}
use Rattle.std.proofs.Math.Seq.{set-set}
use Rattle.std.proofs.lemmas.List.{length-set, get_or-set_same, get_or-set_other, get_or_past, set-get_or}
use Rattle.std.proofs.lemmas.Bool.{true≢false, cases_eq, cases_lt}
use Rattle.std.proofs.lemmas.Grind.{same_number_lists}
use Rattle.std.proofs.lemmas.List.{ext_get_or}
use Rattle.std.proofs.lemmas.Bool.Decides.{nat_tests}
use Rattle.sv8_model.specs.Outside.{Outside}
use Rattle.sv8_model.specs.Cells.{Cell, ram_byte, waiting_bytes, pending_level, Value, byte, queue, held, byte_of, queue_of, held_of, get, put, Has, Fits, same_cell}
use Rattle.sv8_model.specs.Frame.{Alike, only, IsSound, CellsHold}
use Rattle.sv8_model.proofs.Lists.{set_each, IsByte}

apart : (i j : ℕ) → (i == j) ≡ false → j ≢ i
apart i j h = λ e. grind (arith, nat_tests, h, e)

got : (c : Cell) (v : Value) (o : Outside) → Has c o → Fits c v → get c (put c v o) ≡ v
got (ram_byte i) (byte b) o h f = ap byte (get_or-set_same o.ram i b 0 h)
got (ram_byte i) (queue bs) o h f = absurd f
got (ram_byte i) (held b) o h f = absurd f
got waiting_bytes (byte b) o h f = absurd f
got waiting_bytes (queue bs) o h f = refl
got waiting_bytes (held b) o h f = absurd f
got (pending_level l) (byte b) o h f = absurd f
got (pending_level l) (queue bs) o h f = absurd f
got (pending_level l) (held b) o h f = ap held (get_or-set_same o.pending l b false h.1)

unchanged : (c : Cell) (o : Outside) → put c (get c o) o ≡ o
unchanged (ram_byte i) o = ap (λ (r : List ℕ). let p : Outside = record o { ram = r } in p) (set-get_or o.ram i 0)
unchanged waiting_bytes o = refl
unchanged (pending_level l) o = ap (λ (r : List Bool). let p : Outside = record o { pending = r } in p) (set-get_or o.pending l false)

last : (c : Cell) (v w : Value) (o : Outside) → put c w (put c v o) ≡ put c w o
last (ram_byte i) v w o = ap (λ (r : List ℕ). let p : Outside = record o { ram = r } in p) (set-set o.ram i (byte_of v) (byte_of w))
last waiting_bytes v w o = refl
last (pending_level l) v w o = ap (λ (r : List Bool). let p : Outside = record o { pending = r } in p) (set-set o.pending l (held_of v) (held_of w))

others : (c d : Cell) (v : Value) (o : Outside) → same_cell c d ≡ false → get d (put c v o) ≡ get d o
others (ram_byte i) (ram_byte j) v o n = ap byte (get_or-set_other o.ram i j (byte_of v) 0 (apart i j n))
others (ram_byte i) waiting_bytes v o n = refl
others (ram_byte i) (pending_level l) v o n = refl
others waiting_bytes (ram_byte j) v o n = refl
others waiting_bytes waiting_bytes v o n = absurd (true≢false n)
others waiting_bytes (pending_level l) v o n = refl
others (pending_level k) (ram_byte j) v o n = refl
others (pending_level k) waiting_bytes v o n = refl
others (pending_level k) (pending_level l) v o n = ap held (get_or-set_other o.pending k l (held_of v) false (apart k l n))

size : (c : Cell) (v : Value) (o : Outside) → length (put c v o).ram ≡ length o.ram
size (ram_byte i) v o = length-set o.ram i (byte_of v)
size waiting_bytes v o = refl
size (pending_level l) v o = refl

levels : (c : Cell) (v : Value) (o : Outside) → length (put c v o).pending ≡ length o.pending
levels (ram_byte i) v o = refl
levels waiting_bytes v o = refl
levels (pending_level l) v o = length-set o.pending l (held_of v)

output : (c : Cell) (v : Value) (o : Outside) → (put c v o).output ≡ o.output
output (ram_byte i) v o = refl
output waiting_bytes v o = refl
output (pending_level l) v o = refl

alike : (c : Cell) (v : Value) (o : Outside) → Alike (only c) o (put c v o)
alike c v o = record { size = sym (size c v o); levels = sym (levels c v o); output = sym (output c v o); same = λ d n. sym (others c d v o n) }

has : (c d : Cell) (v : Value) (o : Outside) → Has d o → Has d (put c v o)
has c (ram_byte i) v o h = omega (arith, h, size c v o)
has c waiting_bytes v o h = tt
has c (pending_level l) v o h = (h.0, omega (arith, h.1, levels c v o))

fits : (c : Cell) (o : Outside) → IsSound o → Fits c (get c o)
fits (ram_byte i) o h = h.bytes i
fits waiting_bytes o h = tt
fits (pending_level l) o h = tt

sound : (c : Cell) (v : Value) (o : Outside) → IsSound o → Has c o → Fits c v → IsSound (put c v o)
sound (ram_byte i) (byte b) o h k f = record { bytes = set_each IsByte o.ram 0 i b h.bytes f; count = h.count; none_at_zero = h.none_at_zero }
sound (ram_byte i) (queue bs) o h k f = absurd f
sound (ram_byte i) (held b) o h k f = absurd f
sound waiting_bytes v o h k f = record { bytes = h.bytes; count = h.count; none_at_zero = h.none_at_zero }
sound (pending_level l) v o h k f = record {
  bytes = h.bytes;
  count = length-set o.pending l (held_of v) ∙ h.count;
  none_at_zero = get_or-set_other o.pending l 0 (held_of v) false (λ e. omega (arith, k.0)) ∙ h.none_at_zero;
}

-- ---- an outside is another one but for a cell

three : (o' : Outside) (ram : List ℕ) (waiting output : List ℕ) (pending : List Bool) → o'.ram ≡ ram → o'.waiting ≡ waiting → o'.output ≡ output → o'.pending ≡ pending
    → o' ≡ record { ram = ram; waiting = waiting; output = output; pending = pending }
three o' ram waiting output pending a b c d = rw (sym a, sym b, sym c, sym d) refl

module _ (c : Cell) (o o' : Outside) (h : Alike (only c) o o') where
  ram_is : (r : List ℕ) → length r ≡ length o.ram → ((i : ℕ) → get_or o'.ram i 0 ≡ get_or r i 0) → o'.ram ≡ r
  ram_is r e at = same_number_lists o'.ram r (sym h.size ∙ sym e) (λ i l. at i)

  pending_is : (r : List Bool) → length r ≡ length o.pending → ((l : ℕ) → get_or o'.pending l false ≡ get_or r l false) → o'.pending ≡ r
  pending_is r e at = ext_get_or false o'.pending r (sym h.levels ∙ sym e) (λ l k. at l)

  same_bytes : ((i : ℕ) → same_cell c (ram_byte i) ≡ false) → o'.ram ≡ o.ram
  same_bytes n = ram_is o.ram refl (λ i. sym (ap byte_of (h.same (ram_byte i) (n i))))

  same_waiting : same_cell c waiting_bytes ≡ false → o'.waiting ≡ o.waiting
  same_waiting n = sym (ap queue_of (h.same waiting_bytes n))

  same_pending : ((l : ℕ) → same_cell c (pending_level l) ≡ false) → o'.pending ≡ o.pending
  same_pending n = pending_is o.pending refl (λ l. sym (ap held_of (h.same (pending_level l) (n l))))

put_there : (c : Cell) (o o' : Outside) → Alike (only c) o o' → o' ≡ put c (get c o') o
put_there (ram_byte i) o o' h =
    three o' _ _ _ _
    (ram_is (ram_byte i) o o' h (set o.ram i (get_or o'.ram i 0)) (length-set o.ram i _) at)
    (same_waiting (ram_byte i) o o' h refl) (sym h.output) (same_pending (ram_byte i) o o' h (λ l. refl))
  where
    at : (j : ℕ) → get_or o'.ram j 0 ≡ get_or (set o.ram i (get_or o'.ram i 0)) j 0
    at j = elim (cases_eq j i) [
      | inl e ↦ here j e
      | inr n ↦ sym (ap byte_of (h.same (ram_byte j) (grind (arith, nat_tests, n)))) ∙ sym (get_or-set_other o.ram i j _ 0 n)
    ] where
      here : (j : ℕ) → j ≡ i → get_or o'.ram j 0 ≡ get_or (set o.ram i (get_or o'.ram i 0)) j 0
      here j e = rw e (elim (cases_lt i (length o.ram)) [
        | inl l ↦ sym (get_or-set_same o.ram i _ 0 l)
        | inr g ↦ get_or_past o'.ram i 0 (rw (← h.size) g) ∙ sym (get_or_past (set o.ram i _) i 0 (rw length-set g))
      ])
put_there waiting_bytes o o' h =
    three o' _ _ _ _ (same_bytes waiting_bytes o o' h (λ i. refl)) refl (sym h.output) (same_pending waiting_bytes o o' h (λ l. refl))
put_there (pending_level i) o o' h =
    three o' _ _ _ _
    (same_bytes (pending_level i) o o' h (λ l. refl)) (same_waiting (pending_level i) o o' h refl) (sym h.output)
    (pending_is (pending_level i) o o' h (set o.pending i (get_or o'.pending i false)) (length-set o.pending i _) at)
  where
    at : (j : ℕ) → get_or o'.pending j false ≡ get_or (set o.pending i (get_or o'.pending i false)) j false
    at j = elim (cases_eq j i) [
      | inl e ↦ here j e
      | inr n ↦ sym (ap held_of (h.same (pending_level j) (grind (arith, nat_tests, n)))) ∙ sym (get_or-set_other o.pending i j _ false n)
    ] where
      here : (j : ℕ) → j ≡ i → get_or o'.pending j false ≡ get_or (set o.pending i (get_or o'.pending i false)) j false
      here j e = rw e (elim (cases_lt i (length o.pending)) [
        | inl l ↦ sym (get_or-set_same o.pending i _ false l)
        | inr g ↦ get_or_past o'.pending i false (rw (← h.levels) g) ∙ sym (get_or_past (set o.pending i _) i false (rw length-set g))
      ])

pub cells_hold : CellsHold
cells_hold = record {
  got = got;
  unchanged = unchanged;
  last = last;
  others = others;
  alike = alike;
  put_there = put_there;
  fits = fits;
  sound = sound;
  has = has;
}
