-- The values below the events of a step.
use Rattle.std.proofs.Common.{◌≡◌, ◌≢◌, ℕ, ◌+◌, List, [], ◌∷◌, ◌++◌, ◌==◌, length, get_or, Bool, true, false, ◌&&◌, ◌||◌, cond, if◌then◌else◌, Option, Some, None, is_some, option_map, refl, sym, ◌∙◌, ap, arith, inl, inr, ◌⊎◌, eq-eqb, ne_eqb}
use Rattle.std.specs.List.{list_any, slice_index_or}
use Rattle.std.proofs.lemmas.Bool.{cases_eq}
use Rattle.sv8_model.specs.Cells.{Cell, ram_byte, waiting_bytes, pending_level, Value, byte, held}
use Rattle.sv8_time.specs.declared.words.WordPoke.{WordPoke}
use Rattle.sv8_time.specs.declared.requests.Request.{Request}
use Rattle.sv8_time.specs.Order.{Each}
use Rattle.sv8_time.specs.Schedule.{BytePoke}
use Rattle.sv8_time.specs.Words.{IsWordIn, poked_from, poked_bytes, bytes_of_words}
use Rattle.sv8_notes.specs.declared.kept.Kept.{Kept}
use Rattle.sv8_notes.specs.Kept.{kept_in}
use Rattle.sv8_notes.proofs.Common.{any_append, kept_in-append, swap}
use Rattle.sv8_cpu.specs.State.{State}
use Rattle.sv8_cpu.specs.Recorded.{Event, value_poked, poke_of, get}
use Rattle.sv8_trace.specs.Recorder.{below_byte, below_word, below_words, below_requests}

-- some byte of the pokes is this one
abbrev pokes : ℕ → List BytePoke → Bool
pokes i ps = list_any (λ p. p.address == i) ps

poked_some : (i : ℕ) (ps : List BytePoke) (found : Option ℕ) → is_some (value_poked i ps found) ≡ (is_some found || pokes i ps)
poked_some i [] found = last (is_some found)
  where
    last : (b : Bool) → b ≡ (b || false)
    last true = refl
    last false = refl
poked_some i (p ∷ ps) found = poked_some i ps (if p.address == i then Some p.value else found) ∙ step (p.address == i) found
  where
    step : (b : Bool) (f : Option ℕ) → (is_some (if b then Some p.value else f) || pokes i ps) ≡ (is_some f || (b || pokes i ps))
    step true None = refl
    step true (Some x) = refl
    step false f = refl

some_byte : (o : Option ℕ) → is_some (option_map byte o) ≡ is_some o
some_byte None = refl
some_byte (Some x) = refl

-- two lists that keep the same value of a cell, if any
join : (v : Value) (o a b : Bool) → cond (is_some (cond (o && a) (Some v) None)) (cond (o && a) (Some v) None) (cond (o && b) (Some v) None) ≡ cond (o && (a || b)) (Some v) None
join v true true b = refl
join v true false b = refl
join v false a b = refl

none_kept : (o : Bool) (v : Value) → None ≡ cond (o && false) (Some v) None
none_kept true v = refl
none_kept false v = refl

module _ (offset : ℕ) (s : State) where
  abbrev value : ℕ → Value
  value i = byte (get_or s.memory.ram i 0)

  -- ---- bytes

  one_byte : (j i step a : ℕ) (b : Option ℕ) → kept_in j (ram_byte i) (below_byte offset s a b) ≡ cond (j == offset && pokes i (poked_from step a (b ∷ []))) (Some (value i)) None
  one_byte j i step a None = none_kept (j == offset) (value i)
  one_byte j i step a (Some v) = ap (λ o. cond (o && a == i) (Some (value a)) None) (swap offset j) ∙ go (cases_eq a i) (j == offset)
    where
      go : (a ≡ i) ⊎ (a ≢ i) → (o : Bool) → cond (o && a == i) (Some (value a)) None ≡ cond (o && (a == i || false)) (Some (value i)) None
      go (inl e) true = rw (e, eq-eqb i i refl)
      go (inl e) false = refl
      go (inr n) true = rw (ne_eqb a i n)
      go (inr n) false = refl

  pokes_first : (i step a : ℕ) (b : Option ℕ) (bs : List (Option ℕ)) → pokes i (poked_from step a (b ∷ bs)) ≡ (pokes i (poked_from step a (b ∷ [])) || pokes i (poked_from step (a + 1) bs))
  pokes_first i step a None bs = refl
  pokes_first i step a (Some v) bs = go (a == i)
    where
      go : (h : Bool) → (h || pokes i (poked_from step (a + 1) bs)) ≡ ((h || false) || pokes i (poked_from step (a + 1) bs))
      go true = refl
      go false = refl

  both : (j i : ℕ) (x y : Bool) (xs ys : List Kept) → kept_in j (ram_byte i) xs ≡ cond (j == offset && x) (Some (value i)) None → kept_in j (ram_byte i) ys ≡ cond (j == offset && y) (Some (value i)) None
      → kept_in j (ram_byte i) (xs ++ ys) ≡ cond (j == offset && (x || y)) (Some (value i)) None
  both j i x y xs ys p q = kept_in-append j (ram_byte i) xs ys ∙ rw (p, q) (join (value i) (j == offset) x y)

  one_word : (j i step a : ℕ) (b0 b1 b2 b3 : Option ℕ)
      → kept_in j (ram_byte i) (below_byte offset s a b0 ++ below_byte offset s (a + 1) b1 ++ below_byte offset s (a + 2) b2 ++ below_byte offset s (a + 3) b3)
      ≡ cond (j == offset && pokes i (poked_from step a (b0 ∷ b1 ∷ b2 ∷ b3 ∷ []))) (Some (value i)) None
  one_word j i step a b0 b1 b2 b3 =
      both j i _ _ _ _ (both j i _ _ _ _ (both j i _ _ _ _ (one_byte j i step a b0) (one_byte j i step (a + 1) b1)) (one_byte j i step (a + 2) b2)) (one_byte j i step (a + 3) b3)
      ∙ ap (λ h. cond (j == offset && h) (Some (value i)) None) (sym hits)
    where
      two : a + 1 + 1 ≡ a + 2
      two = omega arith

      three : a + 1 + 1 + 1 ≡ a + 3
      three = omega arith

      last : (w x y z e : Bool) → e ≡ false → (w || (x || (y || (z || e)))) ≡ (((w || x) || y) || z)
      last true x y z e q = refl
      last false true y z e q = refl
      last false false true z e q = refl
      last false false false true e q = refl
      last false false false false e q = q

      p : ℕ → Option ℕ → Bool
      p at b = pokes i (poked_from step at (b ∷ []))

      hits : pokes i (poked_from step a (b0 ∷ b1 ∷ b2 ∷ b3 ∷ [])) ≡ (((p a b0 || p (a + 1) b1) || p (a + 2) b2) || p (a + 3) b3)
      hits =
          pokes_first i step a b0 (b1 ∷ b2 ∷ b3 ∷ [])
          ∙ ap (λ r. p a b0 || r) (pokes_first i step (a + 1) b1 (b2 ∷ b3 ∷ [])
          ∙ ap (λ r. p (a + 1) b1 || r) (ap (λ at. pokes i (poked_from step at (b2 ∷ b3 ∷ []))) two ∙ pokes_first i step (a + 2) b2 (b3 ∷ [])
          ∙ ap (λ r. p (a + 2) b2 || r) (ap (λ at. pokes i (poked_from step at (b3 ∷ []))) (omega arith) ∙ pokes_first i step (a + 3) b3 [])))
          ∙ last (p a b0) (p (a + 1) b1) (p (a + 2) b2) (p (a + 3) b3) false refl

  of_word : (j i : ℕ) (w : WordPoke) (bytes : List (Option ℕ)) → w.bytes ≡ bytes → length bytes ≡ 4
      → kept_in j (ram_byte i) (below_word offset s w) ≡ cond (j == offset && pokes i (poked_from w.step w.address bytes)) (Some (value i)) None
  of_word j i w (b0 ∷ b1 ∷ b2 ∷ b3 ∷ []) is e = rw is (one_word j i w.step w.address b0 b1 b2 b3)
  of_word j i w [] is e = absurd (omega (arith, e))
  of_word j i w (a ∷ []) is e = absurd (omega (arith, e))
  of_word j i w (a ∷ b ∷ []) is e = absurd (omega (arith, e))
  of_word j i w (a ∷ b ∷ d ∷ []) is e = absurd (omega (arith, e))
  of_word j i w (a ∷ b ∷ d ∷ f ∷ x ∷ xs) is e = absurd (omega (arith, e))

  of_words : (limit j i : ℕ) (ws : List WordPoke) → Each (IsWordIn limit) ws → kept_in j (ram_byte i) (below_words offset s ws) ≡ cond (j == offset && pokes i (bytes_of_words ws)) (Some (value i)) None
  of_words limit j i [] h = none_kept (j == offset) (value i)
  of_words limit j i (w ∷ ws) h =
      both j i (pokes i (poked_bytes w)) (pokes i (bytes_of_words ws)) (below_word offset s w) (below_words offset s ws) (of_word j i w w.bytes refl h.0.full) (of_words limit j i ws h.1)
      ∙ ap (λ x. cond (j == offset && x) (Some (value i)) None) (sym (any_append (λ p. p.address == i) (poked_bytes w) (bytes_of_words ws)))

  -- ---- other cells

  and_none : (o : Bool) (x : Value) → cond (o && false) (Some x) None ≡ None
  and_none true x = refl
  and_none false x = refl

  no_level_byte : (j l a : ℕ) (b : Option ℕ) → kept_in j (pending_level l) (below_byte offset s a b) ≡ None
  no_level_byte j l a None = refl
  no_level_byte j l a (Some v) = and_none (offset == j) _

  none_both : (j : ℕ) (c : Cell) (xs ys : List Kept) → kept_in j c xs ≡ None → kept_in j c ys ≡ None → kept_in j c (xs ++ ys) ≡ None
  none_both j c xs ys p q = kept_in-append j c xs ys ∙ rw (p, q)

  no_level_words : (j l : ℕ) (ws : List WordPoke) → kept_in j (pending_level l) (below_words offset s ws) ≡ None
  no_level_words j l [] = refl
  no_level_words j l (w ∷ ws) =
      none_both j (pending_level l) (below_word offset s w) (below_words offset s ws)
      (none_both j (pending_level l) (((below_byte offset s w.address (slice_index_or w.bytes 0 None)) ++ (below_byte offset s (w.address + 1) (slice_index_or w.bytes 1 None))) ++ (below_byte offset s (w.address + 2) (slice_index_or w.bytes 2 None))) (below_byte offset s (w.address + 3) (slice_index_or w.bytes 3 None)) (none_both j (pending_level l) ((below_byte offset s w.address (slice_index_or w.bytes 0 None)) ++ (below_byte offset s (w.address + 1) (slice_index_or w.bytes 1 None))) (below_byte offset s (w.address + 2) (slice_index_or w.bytes 2 None)) (none_both j (pending_level l) (below_byte offset s w.address (slice_index_or w.bytes 0 None)) (below_byte offset s (w.address + 1) (slice_index_or w.bytes 1 None)) (no_level_byte j l w.address (slice_index_or w.bytes 0 None)) (no_level_byte j l (w.address + 1) (slice_index_or w.bytes 1 None))) (no_level_byte j l (w.address + 2) (slice_index_or w.bytes 2 None))) (no_level_byte j l (w.address + 3) (slice_index_or w.bytes 3 None)))
      (no_level_words j l ws)

  no_queue_byte : (j a : ℕ) (b : Option ℕ) → kept_in j waiting_bytes (below_byte offset s a b) ≡ None
  no_queue_byte j a None = refl
  no_queue_byte j a (Some v) = and_none (offset == j) _

  no_queue_words : (j : ℕ) (ws : List WordPoke) → kept_in j waiting_bytes (below_words offset s ws) ≡ None
  no_queue_words j [] = refl
  no_queue_words j (w ∷ ws) =
      none_both j waiting_bytes (below_word offset s w) (below_words offset s ws)
      (none_both j waiting_bytes (((below_byte offset s w.address (slice_index_or w.bytes 0 None)) ++ (below_byte offset s (w.address + 1) (slice_index_or w.bytes 1 None))) ++ (below_byte offset s (w.address + 2) (slice_index_or w.bytes 2 None))) (below_byte offset s (w.address + 3) (slice_index_or w.bytes 3 None)) (none_both j waiting_bytes ((below_byte offset s w.address (slice_index_or w.bytes 0 None)) ++ (below_byte offset s (w.address + 1) (slice_index_or w.bytes 1 None))) (below_byte offset s (w.address + 2) (slice_index_or w.bytes 2 None)) (none_both j waiting_bytes (below_byte offset s w.address (slice_index_or w.bytes 0 None)) (below_byte offset s (w.address + 1) (slice_index_or w.bytes 1 None)) (no_queue_byte j w.address (slice_index_or w.bytes 0 None)) (no_queue_byte j (w.address + 1) (slice_index_or w.bytes 1 None))) (no_queue_byte j (w.address + 2) (slice_index_or w.bytes 2 None))) (no_queue_byte j (w.address + 3) (slice_index_or w.bytes 3 None)))
      (no_queue_words j ws)

  -- ---- levels

  abbrev level_value : ℕ → Value
  level_value l = held (get_or s.memory.pending l false)

  of_requests : (j l : ℕ) (rs : List Request) → kept_in j (pending_level l) (below_requests offset s rs) ≡ cond (j == offset && list_any (λ r. r.level == l) rs) (Some (level_value l)) None
  of_requests j l [] = none_kept (j == offset) (level_value l)
  of_requests j l (r ∷ rs) =
      ap (λ o. cond (o && r.level == l) (Some (level_value r.level)) (kept_in j (pending_level l) (below_requests offset s rs))) (swap offset j)
      ∙ ap (λ x. cond (j == offset && r.level == l) (Some (level_value r.level)) x) (of_requests j l rs)
      ∙ go (cases_eq r.level l) (j == offset)
    where
      go : (r.level ≡ l) ⊎ (r.level ≢ l) → (o : Bool) → cond (o && r.level == l) (Some (level_value r.level)) (cond (o && list_any (λ r. r.level == l) rs) (Some (level_value l)) None)
          ≡ cond (o && (r.level == l || list_any (λ r. r.level == l) rs)) (Some (level_value l)) None
      go (inl e) true = rw (e, eq-eqb l l refl)
      go (inl e) false = refl
      go (inr n) true = rw (ne_eqb r.level l n)
      go (inr n) false = refl

  skipped : (o : Bool) (v : Value) {k : Option Value} → k ≡ None → cond (o && false) (Some v) k ≡ None
  skipped true v e = e
  skipped false v e = e

  no_byte_requests : (j i : ℕ) (rs : List Request) → kept_in j (ram_byte i) (below_requests offset s rs) ≡ None
  no_byte_requests j i [] = refl
  no_byte_requests j i (r ∷ rs) = skipped (offset == j) (level_value r.level) (no_byte_requests j i rs)

  no_queue_requests : (j : ℕ) (rs : List Request) → kept_in j waiting_bytes (below_requests offset s rs) ≡ None
  no_queue_requests j [] = refl
  no_queue_requests j (r ∷ rs) = skipped (offset == j) (level_value r.level) (no_queue_requests j rs)

  -- ---- all together

  tail_none : (x : Option Value) → cond (is_some x) x None ≡ x
  tail_none None = refl
  tail_none (Some v) = refl

  -- a list that keeps nothing at this step, and then the value
  onto : (j : ℕ) (x : Bool) (v : Value) (k : Option Value) → ((j ≡ offset) → k ≡ None) → cond (is_some k) k (cond (j == offset && x) (Some v) None) ≡ cond (j == offset && x) (Some v) k
  onto j x v k free = go (cases_eq j offset)
    where
      go : (j ≡ offset) ⊎ (j ≢ offset) → cond (is_some k) k (cond (j == offset && x) (Some v) None) ≡ cond (j == offset && x) (Some v) k
      go (inl e) = rw (free e)
      go (inr n) = rw (ne_eqb j offset n) (tail_none k)

  some_held : (b : Bool) → is_some (if b then Some (held true) else None) ≡ b
  some_held true = refl
  some_held false = refl

  pub below_is : (limit : ℕ) (old : List Kept) (e : Event) (ws : List WordPoke) (rs : List Request) → Each (IsWordIn limit) ws → bytes_of_words ws ≡ e.pokes → rs ≡ e.requests
      → ((c : Cell) → kept_in offset c old ≡ None)
      → (j : ℕ) (c : Cell) → kept_in j c ((old ++ below_words offset s ws) ++ below_requests offset s rs) ≡ cond (j == offset && is_some (poke_of c e)) (Some (get c s)) (kept_in j c old)
  below_is limit old e ws rs words ps qs free j (ram_byte i) =
      kept_in-append j (ram_byte i) (old ++ below_words offset s ws) (below_requests offset s rs)
      ∙ ap (λ y. cond (is_some (kept_in j (ram_byte i) (old ++ below_words offset s ws))) (kept_in j (ram_byte i) (old ++ below_words offset s ws)) y) (no_byte_requests j i rs)
      ∙ tail_none (kept_in j (ram_byte i) (old ++ below_words offset s ws))
      ∙ kept_in-append j (ram_byte i) old (below_words offset s ws)
      ∙ ap (λ y. cond (is_some (kept_in j (ram_byte i) old)) (kept_in j (ram_byte i) old) y) (of_words limit j i ws words)
      ∙ onto j (pokes i (bytes_of_words ws)) (value i) (kept_in j (ram_byte i) old) (λ q. ap (λ x. kept_in x (ram_byte i) old) q ∙ free (ram_byte i))
      ∙ ap (λ x. cond (j == offset && x) (Some (value i)) (kept_in j (ram_byte i) old)) (ap (pokes i) ps ∙ sym (some_byte (value_poked i e.pokes None) ∙ poked_some i e.pokes None))
  below_is limit old e ws rs words ps qs free j waiting_bytes =
      kept_in-append j waiting_bytes (old ++ below_words offset s ws) (below_requests offset s rs)
      ∙ ap (λ y. cond (is_some (kept_in j waiting_bytes (old ++ below_words offset s ws))) (kept_in j waiting_bytes (old ++ below_words offset s ws)) y) (no_queue_requests j rs)
      ∙ tail_none (kept_in j waiting_bytes (old ++ below_words offset s ws))
      ∙ kept_in-append j waiting_bytes old (below_words offset s ws)
      ∙ ap (λ y. cond (is_some (kept_in j waiting_bytes old)) (kept_in j waiting_bytes old) y) (no_queue_words j ws)
      ∙ tail_none (kept_in j waiting_bytes old) ∙ go (j == offset)
    where
      go : (o : Bool) → kept_in j waiting_bytes old ≡ cond (o && false) (Some (get waiting_bytes s)) (kept_in j waiting_bytes old)
      go true = refl
      go false = refl
  below_is limit old e ws rs words ps qs free j (pending_level l) =
      kept_in-append j (pending_level l) (old ++ below_words offset s ws) (below_requests offset s rs)
      ∙ ap (λ x. cond (is_some x) x (kept_in j (pending_level l) (below_requests offset s rs))) front
      ∙ ap (λ y. cond (is_some (kept_in j (pending_level l) old)) (kept_in j (pending_level l) old) y) (of_requests j l rs)
      ∙ onto j (list_any (λ r. r.level == l) rs) (level_value l) (kept_in j (pending_level l) old) (λ q. ap (λ x. kept_in x (pending_level l) old) q ∙ free (pending_level l))
      ∙ ap (λ x. cond (j == offset && x) (Some (level_value l)) (kept_in j (pending_level l) old)) (ap (λ (q : List Request). list_any (λ r. r.level == l) q) qs ∙ sym (some_held (list_any (λ r. r.level == l) e.requests)))
    where
      front : kept_in j (pending_level l) (old ++ below_words offset s ws) ≡ kept_in j (pending_level l) old
      front =
          kept_in-append j (pending_level l) old (below_words offset s ws)
          ∙ ap (λ y. cond (is_some (kept_in j (pending_level l) old)) (kept_in j (pending_level l) old) y) (no_level_words j l ws) ∙ tail_none (kept_in j (pending_level l) old)

-- what is kept, where nothing was and nothing happens
pub nothing_below : (kept : List Kept) (e : Event) (touched : Bool) (j offset : ℕ) (c : Cell) (s : State) → kept ≡ [] → e.pokes ≡ [] → e.requests ≡ []
    → kept_in j c kept ≡ cond touched None (cond (j == offset && is_some (poke_of c e)) (Some (get c s)) (kept_in j c kept))
nothing_below kept e touched j offset c s none no_pokes no_requests =
    ap (kept_in j c) none
    ∙ nowhere touched (j == offset)
    ∙ ap (λ o. cond touched None (cond (j == offset && is_some o) (Some (get c s)) None)) (sym (unset c))
    ∙ ap (λ k. cond touched None (cond (j == offset && is_some (poke_of c e)) (Some (get c s)) (kept_in j c k))) (sym none)
  where
    unset : (d : Cell) → poke_of d e ≡ None
    unset (ram_byte i) = ap (λ ps. option_map byte (value_poked i ps None)) no_pokes
    unset waiting_bytes = refl
    unset (pending_level l) = ap (λ rs. if list_any (λ r. r.level == l) rs then Some (held true) else None) no_requests

    nowhere : (t o : Bool) → None ≡ cond t None (cond (o && false) (Some (get c s)) None)
    nowhere true o = refl
    nowhere false true = refl
    nowhere false false = refl
