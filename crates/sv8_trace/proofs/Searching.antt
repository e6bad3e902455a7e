-- The search through the intervals, and what it finds of a change.
use Rattle.std.proofs.Common.{◌≡◌, ℕ, ◌+◌, ◌-◌, ◌*◌, ◌/◌, ◌%◌, ◌≤◌, ◌<◌, List, length, get_or, Bool, true, false, not, ◌&&◌, ◌||◌, min, leb, ltb, Option, Some, None, refl, sym, ◌∙◌, ap, ap₂, subst, arith, inl, inr, ◌⊎◌, le-leb, lt-ltb, le-ltb, div-lt_iff_lt-mul}
use Rattle.std.proofs.lemmas.List.{get_or_default}
use Rattle.sv8_trace.specs.declared.interval.Interval.{Interval}
use Rattle.std.proofs.Math.Nat.{div-add-mod, mul_comm}
use Rattle.std.proofs.lemmas.Nat.{div-mul-add, mod-mul-add}
use Rattle.std.proofs.lemmas.Bool.{cases_lt, lt-leb, true≢false, true_from_ne_false}
use Rattle.sv8_model.specs.Cells.{Cell}
use Rattle.sv8_history.specs.Machine.{Machine, Footprint, reads_of, writes_of}
use Rattle.sv8_history.specs.Trace.{Trace, some_from}
use Rattle.sv8_history.specs.Changes.{Change}
use Rattle.sv8_history.specs.Reads.{least_below, reads_change}
use Rattle.sv8_history.specs.Input.{takes_edit}
use Rattle.sv8_history.proofs.Common.{none_at, none_from, Found, found, found_one}
use Rattle.sv8_notes.specs.Steps.{Steps, IsFirstBelow, footprint_in}
use Rattle.sv8_trace.specs.Recording.{Recording, no_interval, trace_of}

module _ (windows pages k : ℕ) (pos : 0 < k) (r : Recording) (test : Footprint Cell → Bool) where
  abbrev met : ℕ → Bool
  met n = test ((trace_of windows pages k r).notes n)

  -- step n by its interval
  pub at : (i j : ℕ) (notes : Steps) → j < k → notes ≡ (get_or r.intervals i no_interval).notes → met (k * i + j) ≡ test (footprint_in notes j)
  at i j notes h is =
      let d : (k * i + j) / k ≡ i = ap (λ x. (x + j) / k) (mul_comm k i) ∙ div-mul-add i k j h in
      let m : (k * i + j) % k ≡ j = ap (λ x. (x + j) % k) (mul_comm k i) ∙ mod-mul-add i k j h in
      ap₂ (λ x y. test (footprint_in (get_or r.intervals x no_interval).notes y)) d m ∙ ap (λ (s : Steps). test (footprint_in s j)) (sym is)

  module _ (start stop : ℕ) (notes : Steps) (is : notes ≡ (get_or r.intervals (start / k) no_interval).notes) (few : stop ≤ k) where
    split : k * (start / k) + start % k ≡ start
    split = div-add-mod start k

    none_yet : (from last : ℕ) → ((n : ℕ) → from ≤ n → n < start → met n ≡ false) → last ≤ stop
        → ((j : ℕ) → start % k ≤ j → j < last → test (footprint_in notes j) ≡ false) → (n : ℕ) → from ≤ n → n < k * (start / k) + last → met n ≡ false
    none_yet from last before le here n a b = go (cases_lt n start)
      where
        go : (n < start) ⊎ (start ≤ n) → met n ≡ false
        go (inl l) = before n a l
        go (inr l) =
            let low : k * (start / k) ≤ n = omega (arith, split, l) in
            let e : k * (start / k) + (n - k * (start / k)) ≡ n = omega (arith, low) in
            let small : n - k * (start / k) < last = omega (arith, low, b) in
            subst (λ x. met x ≡ false) e
            (at (start / k) (n - k * (start / k)) notes (omega (arith, small, le, few)) is ∙ here (n - k * (start / k)) (omega (arith, split, l)) small)

    pub none_here : (from : ℕ) → ((n : ℕ) → from ≤ n → n < start → met n ≡ false) → IsFirstBelow (λ j. test (footprint_in notes j)) (start % k) stop None
        → (n : ℕ) → from ≤ n → n < k * (start / k) + stop → met n ≡ false
    none_here from before h = none_yet from stop before (omega arith) h

    pub found_here : (from end offset : ℕ) → from ≤ start → k * (start / k) + stop ≤ end → ((n : ℕ) → from ≤ n → n < start → met n ≡ false)
        → IsFirstBelow (λ j. test (footprint_in notes j)) (start % k) stop (Some offset) → IsFirstBelow met from end (Some (k * (start / k) + offset))
    found_here from end offset le fits before h =
        let low = h.0 in
        let high = h.1 in
        (omega (arith, split, le, low), omega (arith, high, fits), at (start / k) offset notes (omega (arith, high, few)) is ∙ h.2, none_yet from offset before (omega (arith, high)) h.3)

-- the interval of a recorded step, as it stands in the list
pub interval_of : (k step : ℕ) (xs : List Interval) (r : Recording) (here d : Interval) → 0 < k → xs ≡ r.intervals → step < k * length r.intervals → here ≡ get_or xs (step / k) d
    → here ≡ get_or r.intervals (step / k) no_interval
interval_of k step xs r here d pos is h get =
    let w : step < length r.intervals * k = omega (arith, h, mul_comm (length r.intervals) k) in
    let i : step / k < length r.intervals = (div-lt_iff_lt-mul pos).1 w in
    get ∙ ap (λ ys. get_or ys (step / k) d) is ∙ get_or_default r.intervals (step / k) d no_interval i

-- ---- the first read of a change

module _ (m : Machine) (k : ℕ) (trace : Trace m) (c : Change m) where
  abbrev reads : ℕ → Bool
  reads n = reads_of m trace.notes c.cell n

  abbrev writes : ℕ → Bool
  writes n = writes_of m trace.notes c.cell n

  no_change_before : (n : ℕ) → n < c.from → reads_change m trace.notes c n ≡ false
  no_change_before n h = rw (lt-leb c.from n h)

  no_change_after : (n : ℕ) → c.to ≤ n → reads_change m trace.notes c n ≡ false
  no_change_after n h = rw (le-ltb n c.to h) (no (leb c.from n))
    where
      no : (a : Bool) → (a && false && reads n && not (m.ends_search c.cell && some_from c.from n writes)) ≡ false
      no true = refl
      no false = refl

  unread : (n : ℕ) → reads n ≡ false → reads_change m trace.notes c n ≡ false
  unread n e = rw e (no (leb c.from n) (ltb n c.to))
    where
      no : (a b : Bool) → (a && b && false && not (m.ends_search c.cell && some_from c.from n writes)) ≡ false
      no true true = refl
      no true false = refl
      no false b = refl

  is_read : (n : ℕ) → c.from ≤ n → n < c.to → reads n ≡ true → (m.ends_search c.cell && some_from c.from n writes) ≡ false → reads_change m trace.notes c n ≡ true
  is_read n a b e w = rw (le-leb c.from n a, lt-ltb n c.to b, e, w)

  covered : (n : ℕ) → m.ends_search c.cell ≡ true → some_from c.from n writes ≡ true → reads_change m trace.notes c n ≡ false
  covered n e w = rw (e, w) (no (leb c.from n) (ltb n c.to) (reads n))
    where
      no : (a b d : Bool) → (a && b && d && false) ≡ false
      no true true true = refl
      no true true false = refl
      no true false d = refl
      no false b d = refl

  end : ℕ
  end = min c.to (k * trace.count)

  answer : (o : Option ℕ) → Found (k * trace.count) (reads_change m trace.notes c) o → o ≡ least_below (k * trace.count) (reads_change m trace.notes c)
  answer o h = found_one (k * trace.count) (reads_change m trace.notes c) o (least_below (k * trace.count) (reads_change m trace.notes c)) h (found (k * trace.count) (reads_change m trace.notes c))

  none_found : ((n : ℕ) → c.from ≤ n → n < min c.to (k * trace.count) → reads_change m trace.notes c n ≡ false) → None ≡ least_below (k * trace.count) (reads_change m trace.notes c)
  none_found h = answer None (λ n l. go n l (cases_lt n c.from) (cases_lt n c.to))
    where
      go : (n : ℕ) → n < k * trace.count → (n < c.from) ⊎ (c.from ≤ n) → (n < c.to) ⊎ (c.to ≤ n) → reads_change m trace.notes c n ≡ false
      go n l (inl a) b = no_change_before n a
      go n l (inr a) (inl b) = h n a (omega arith)
      go n l (inr a) (inr b) = no_change_after n b

  some_found : (s : ℕ) → c.from ≤ s → s < min c.to (k * trace.count) → reads s ≡ true → (m.ends_search c.cell && some_from c.from s writes) ≡ false
      → ((n : ℕ) → c.from ≤ n → n < s → reads n ≡ false) → Some s ≡ least_below (k * trace.count) (reads_change m trace.notes c)
  some_found s a b e w before =
      answer (Some s) (
        omega arith,
        record {
          here = is_read s a (omega arith) e w;
          least = λ n l. go n l (cases_lt n c.from);
        },
      )
    where
      go : (n : ℕ) → n < s → (n < c.from) ⊎ (c.from ≤ n) → reads_change m trace.notes c n ≡ false
      go n l (inl x) = no_change_before n x
      go n l (inr x) = unread n (before n x l)

  -- where a write does not end the search, the first step that reads the cell
  pub first_level : m.ends_search c.cell ≡ false → (o : Option ℕ) → IsFirstBelow reads c.from (min c.to (k * trace.count)) o → o ≡ least_below (k * trace.count) (reads_change m trace.notes c)
  first_level e None h = none_found (λ n a b. unread n (h n a b))
  first_level e (Some s) h = some_found s h.0 h.1 h.2 (rw e) h.3

  -- where it does, the first step that touches the cell, if it reads it
  first_part : (a b : Bool) → (a || b) ≡ false → a ≡ false
  first_part true b e = e
  first_part false b e = refl

  second_part : (a b : Bool) → (a || b) ≡ false → b ≡ false
  second_part true b e = absurd (true≢false e)
  second_part false b e = e

  other_part : (a b : Bool) → (a || b) ≡ true → a ≡ false → b ≡ true
  other_part true b e f = absurd (true≢false f)
  other_part false b e f = e

  and_none : (b : Bool) (x : Bool) → x ≡ false → (b && x) ≡ false
  and_none true x e = e
  and_none false x e = refl

  pub first_untouched : IsFirstBelow (λ n. reads n || writes n) c.from (min c.to (k * trace.count)) None → None ≡ least_below (k * trace.count) (reads_change m trace.notes c)
  first_untouched h = none_found (λ n a b. unread n (first_part (reads n) (writes n) (h n a b)))

  pub first_touched : (s : ℕ) → m.ends_search c.cell ≡ true → IsFirstBelow (λ n. reads n || writes n) c.from (min c.to (k * trace.count)) (Some s)
      → (o : Option ℕ) → IsFirstBelow reads s (min (s + 1) (k * trace.count)) o → o ≡ least_below (k * trace.count) (reads_change m trace.notes c)
  first_touched s ends h None g =
      let b = h.1 in
      let low = h.0 in
      let unread_here : reads s ≡ false = g s (omega arith) (omega (arith, b)) in
      let wrote : writes s ≡ true = other_part (reads s) (writes s) h.2 unread_here in
      none_found (λ n x y. go n x wrote (cases_lt n s) unread_here)
    where
      past : (n : ℕ) → s ≤ n → writes s ≡ true → (s < n) ⊎ (n ≤ s) → reads s ≡ false → reads_change m trace.notes c n ≡ false
      past n l w (inl q) e =
          let low = h.0 in
          covered n ends (true_from_ne_false (some_from c.from n writes) (λ f. true≢false (sym w ∙ none_at c.from n writes f s low q)))
      past n l w (inr q) e = let i : n ≡ s = omega (arith, l) in unread n (ap reads i ∙ e)

      go : (n : ℕ) → c.from ≤ n → writes s ≡ true → (n < s) ⊎ (s ≤ n) → reads s ≡ false → reads_change m trace.notes c n ≡ false
      go n x w (inl l) e = unread n (first_part (reads n) (writes n) (h.3 n x l))
      go n x w (inr l) e = past n l w (cases_lt s n) e
  first_touched s ends h (Some t) g =
      let b = h.1 in
      let low = h.0 in
      let x = g.0 in
      let y = g.1 in
      let i : t ≡ s = omega (arith, x, y) in
      let here : reads s ≡ true = sym (ap reads i) ∙ g.2 in
      ap Some i ∙ some_found s low b here
      (and_none (m.ends_search c.cell) (some_from c.from s writes) (none_from c.from s writes (λ n p q. second_part (reads n) (writes n) (h.3 n p q))))
      (λ n p q. first_part (reads n) (writes n) (h.3 n p q))

-- ---- the first step that takes input

pub first_taken : (m : Machine) (k : ℕ) (trace : Trace m) (from end : ℕ) (o : Option ℕ) → end ≡ k * trace.count → IsFirstBelow (λ n. (trace.notes n).takes) from end o
    → o ≡ least_below (k * trace.count) (takes_edit m trace.notes from)
first_taken m k trace from end o is h = found_one (k * trace.count) (takes_edit m trace.notes from) o (least_below (k * trace.count) (takes_edit m trace.notes from)) (go o (rw is at h)) (found (k * trace.count) (takes_edit m trace.notes from))
  where
    before : (n : ℕ) → n < from → takes_edit m trace.notes from n ≡ false
    before n l = rw (lt-leb from n l)

    behind : (n : ℕ) → from ≤ n → (trace.notes n).takes ≡ false → takes_edit m trace.notes from n ≡ false
    behind n l e = rw (le-leb from n l, e)

    go : (o : Option ℕ) → IsFirstBelow (λ n. (trace.notes n).takes) from (k * trace.count) o → Found (k * trace.count) (takes_edit m trace.notes from) o
    go None h = λ n l. pick n l (cases_lt n from)
      where
        pick : (n : ℕ) → n < k * trace.count → (n < from) ⊎ (from ≤ n) → takes_edit m trace.notes from n ≡ false
        pick n l (inl a) = before n a
        pick n l (inr a) = behind n a (h n a l)
    go (Some s) h = (h.1, record { here = rw (le-leb from s h.0, h.2); least = λ n l. pick n l (cases_lt n from) })
      where
        pick : (n : ℕ) → n < s → (n < from) ⊎ (from ≤ n) → takes_edit m trace.notes from n ≡ false
        pick n l (inl a) = before n a
        pick n l (inr a) = behind n a (h.3 n a l)
