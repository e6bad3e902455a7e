-- Lines in order, searched by halves.
use Rattle.std.proofs.Common.{◌≡◌, ℕ, ℤ, pos, zero, suc, ◌-◌, ◌≤◌, ◌<◌, List, [], ◌∷◌, ◌++◌, length, map, Option, Some, None, true, false, cond, nat_le, nat_lt, refl, subst, sub-one, arith}
use Rattle.std.specs.List.{slice_get}
use Rattle.std.proofs.lemmas.List.{length-map, map-append}
use Rattle.std.proofs.lemmas.Bool.Decides.{nat_tests}
use Rattle.sv8_asm.specs.Names.{Mark, last_of, first_behind}
use Rattle.sv8_asm.specs.Index.{Ordered, mark_of, location_of}
use Rattle.sv8_asm.specs.declared.marks.LocalLabel.{LocalLabel}

pub push_ordered : (from : ℕ) (ms : List Mark) (last : ℕ) (m : Mark) → Ordered from ms last → last ≤ m.line → Ordered from (ms ++ m ∷ []) m.line
push_ordered from [] last m o h = (omega (arith, o, h), omega arith)
push_ordered from (m0 ∷ ms) last m o h = (o.0, push_ordered m0.line ms last m o.1 h)

-- no line up to this one
none_more : (found : Option ℤ) (line from : ℕ) (ms : List Mark) (end : ℕ) → Ordered from ms end → ((m : Mark) → slice_get ms 0 ≡ Some m → line < m.line) → last_of found line ms ≡ found
unfolding last_of
none_more found line from [] end o h = refl
none_more found line from (m ∷ ms) end o h =
    let low = h m refl in
    let e : nat_le m.line line ≡ false = grind (arith, nat_tests) in
    rw e (none_more found line m.line ms end o.1 (later ms m.line end o.1 low))
  where
    later : (ms : List Mark) (from end : ℕ) → Ordered from ms end → line < from → (n : Mark) → slice_get ms 0 ≡ Some n → line < n.line
    later [] from end o low n e = absurd (cc)
    later (k ∷ ms) from end o low n e = let same : k ≡ n = cc in let f = o.0 in rw (← same) (omega arith)

last_at : (found : Option ℤ) (line from : ℕ) (ms : List Mark) (end i : ℕ) (m : Mark) → Ordered from ms end → slice_get ms i ≡ Some m → m.line ≤ line → ((n : Mark) → slice_get ms (suc i) ≡ Some n → line < n.line) → last_of found line ms ≡ Some (pos m.location)
unfolding last_of
last_at found line from [] end i m o e low high = absurd (cc)
last_at found line from (k ∷ ms) end zero m o e low high =
    let same : k ≡ m = cc in
    let f : nat_le m.line line ≡ true = grind (arith, nat_tests) in
    rw (same, f) (none_more (Some (pos m.location)) line k.line ms end o.1 high)
last_at found line from (k ∷ ms) end (suc i) m o e low high = last_at (cond (nat_le k.line line) (Some (pos k.location)) found) line k.line ms end i m o.1 e low high

at_least : (from : ℕ) (ms : List Mark) (end i : ℕ) (m : Mark) → Ordered from ms end → slice_get ms i ≡ Some m → from ≤ m.line
at_least from [] end i m o e = absurd (cc)
at_least from (k ∷ ms) end zero m o e = let same : k ≡ m = cc in rw (← same) o.0
at_least from (k ∷ ms) end (suc i) m o e = let f = o.0 in let g = at_least k.line ms end i m o.1 e in omega arith

first_start : (line : ℕ) (ms : List Mark) → ((n : Mark) → slice_get ms 0 ≡ Some n → line < n.line) → first_behind line ms ≡ location_of (slice_get ms 0)
unfolding first_behind
first_start line [] high = refl
first_start line (k ∷ ms) high =
    let h = high k refl in
    let e : nat_lt line k.line ≡ true = grind (arith, nat_tests) in
    rw e refl

first_at : (line from : ℕ) (ms : List Mark) (end i : ℕ) (m : Mark) → Ordered from ms end → slice_get ms i ≡ Some m → m.line ≤ line → ((n : Mark) → slice_get ms (suc i) ≡ Some n → line < n.line) → first_behind line ms ≡ location_of (slice_get ms (suc i))
unfolding first_behind
first_at line from [] end i m o e low high = absurd (cc)
first_at line from (k ∷ ms) end zero m o e low high =
    let same : k ≡ m = cc in
    let f : nat_lt line m.line ≡ false = grind (arith, nat_tests) in
    rw (same, f) (first_start line ms high)
first_at line from (k ∷ ms) end (suc i) m o e low high =
    let g = at_least k.line ms end i m o.1 e in
    let f : nat_lt line k.line ≡ false = grind (arith, nat_tests) in
    rw f (first_at line k.line ms end i m o.1 e low high)

none_past : (ms : List Mark) (i : ℕ) → slice_get ms i ≡ None → length ms ≤ i
none_past [] i e = omega arith
none_past (k ∷ ms) zero e = absurd (cc)
none_past (k ∷ ms) (suc i) e = let h = none_past ms i e in omega arith

-- ---- as a search by halves finds them

pub none_found : (line : ℕ) (ms : List Mark) (end count : ℕ) → Ordered 0 ms end → count ≡ 0 → ((m : Mark) → slice_get ms count ≡ Some m → line < m.line) → last_of None line ms ≡ None
none_found line ms end count o z high = none_more None line 0 ms end o (λ m e. high m (rw z e))

pub last_found : (line : ℕ) (ms : List Mark) (end count : ℕ) → Ordered 0 ms end → (count ≡ 0 → ⊥) → count ≤ length ms → ((m : Mark) → 0 < count → slice_get ms (count - 1) ≡ Some m → m.line ≤ line)
    → ((m : Mark) → slice_get ms count ≡ Some m → line < m.line) → last_of None line ms ≡ location_of (slice_get ms (count - 1))
last_found line ms end zero o nz most low high = absurd (nz refl)
last_found line ms end (suc i) o nz most low high = rw sub-one (go (slice_get ms i) refl)
  where
    go : (x : Option Mark) → slice_get ms i ≡ x → last_of None line ms ≡ location_of (slice_get ms i)
    go None e = let past = none_past ms i e in absurd (omega (arith, past, most))
    go (Some m) e = rw e (last_at None line 0 ms end i m o e (low m (omega arith) (rw sub-one e)) high)

pub first_found : (line : ℕ) (ms : List Mark) (end count : ℕ) → Ordered 0 ms end → count ≤ length ms → ((m : Mark) → 0 < count → slice_get ms (count - 1) ≡ Some m → m.line ≤ line)
    → ((m : Mark) → slice_get ms count ≡ Some m → line < m.line) → first_behind line ms ≡ location_of (slice_get ms count)
first_found line ms end zero o most low high = first_start line ms high
first_found line ms end (suc i) o most low high = go (slice_get ms i) refl
  where
    go : (x : Option Mark) → slice_get ms i ≡ x → first_behind line ms ≡ location_of (slice_get ms (suc i))
    go None e = let past = none_past ms i e in absurd (omega (arith, past, most))
    go (Some m) e = first_at line 0 ms end i m o e (low m (omega arith) (rw sub-one e)) high

-- ---- the same of labels as they are kept

raw : (P : Mark → Type 0) (ls : List LocalLabel) (i : ℕ) → ((l : LocalLabel) → slice_get ls i ≡ Some l → P (mark_of l)) → (m : Mark) → slice_get (map mark_of ls) i ≡ Some m → P m
raw P [] i h m e = absurd (cc)
raw P (l ∷ ls) zero h m e = let same : mark_of l ≡ m = cc in subst P same (h l refl)
raw P (l ∷ ls) (suc i) h m e = raw P ls i h m e

pub none_in : (line : ℕ) (ls : List LocalLabel) (end count : ℕ) → Ordered 0 (map mark_of ls) end → count ≡ 0 → ((l : LocalLabel) → slice_get ls count ≡ Some l → line < l.line) → last_of None line (map mark_of ls) ≡ None
none_in line ls end count o z high = none_found line (map mark_of ls) end count o z (raw (λ m. line < m.line) ls count high)

pub last_in : (line : ℕ) (ls : List LocalLabel) (end count : ℕ) → Ordered 0 (map mark_of ls) end → (count ≡ 0 → ⊥) → count ≤ length ls → ((l : LocalLabel) → 0 < count → slice_get ls (count - 1) ≡ Some l → l.line ≤ line)
    → ((l : LocalLabel) → slice_get ls count ≡ Some l → line < l.line) → last_of None line (map mark_of ls) ≡ location_of (slice_get (map mark_of ls) (count - 1))
last_in line ls end count o nz most low high =
    last_found line (map mark_of ls) end count o nz (omega (arith, most, length-map ls mark_of)) (λ m some e. raw (λ m. m.line ≤ line) ls (count - 1) (λ l f. low l some f) m e) (raw (λ m. line < m.line) ls count high)

pub first_in : (line : ℕ) (ls : List LocalLabel) (end count : ℕ) → Ordered 0 (map mark_of ls) end → count ≤ length ls → ((l : LocalLabel) → 0 < count → slice_get ls (count - 1) ≡ Some l → l.line ≤ line)
    → ((l : LocalLabel) → slice_get ls count ≡ Some l → line < l.line) → first_behind line (map mark_of ls) ≡ location_of (slice_get (map mark_of ls) count)
first_in line ls end count o most low high =
    first_found line (map mark_of ls) end count o (omega (arith, most, length-map ls mark_of)) (λ m some e. raw (λ m. m.line ≤ line) ls (count - 1) (λ l f. low l some f) m e) (raw (λ m. line < m.line) ls count high)

pub pushed_in : (ls new : List LocalLabel) (l : LocalLabel) (last : ℕ) → new ≡ ls ++ l ∷ [] → Ordered 0 (map mark_of ls) last → last ≤ l.line → Ordered 0 (map mark_of new) l.line
pushed_in ls new l last e o h = rw (e, map-append mark_of ls (l ∷ [])) (push_ordered 0 (map mark_of ls) last (mark_of l) o h)
