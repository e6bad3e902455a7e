-- Kept values in their lists.
use Rattle.std.proofs.Common.{◌≡◌, ℕ, List, [], ◌∷◌, ◌++◌, ◌==◌, filter, Bool, true, false, not, ◌&&◌, cond, Option, Some, None, is_some, refl, sym, ◌∙◌, ap, eqb-true, eq-eqb}
use Rattle.std.proofs.lemmas.Bool.{true≢false}
use Rattle.sv8_model.specs.Cells as model
use Rattle.sv8_model.specs.Cells.{ram_byte, waiting_bytes, pending_level, Value, same_cell}
use Rattle.sv8_notes.specs.declared.cell.Cell.{Cell}
use Rattle.sv8_notes.specs.declared.cell.Content.{Content}
use Rattle.sv8_notes.specs.declared.kept.Kept.{Kept}
use Rattle.sv8_notes.specs.Cells.{cell_of, content_of}
use Rattle.sv8_notes.specs.Kept.{is_kept_of, kept_in}

pub same_self : (c : model.Cell) → same_cell c c ≡ true
same_self (ram_byte i) = eq-eqb i i refl
same_self waiting_bytes = refl
same_self (pending_level l) = eq-eqb l l refl

-- cells that are the same are equal
same_is : (c d : model.Cell) → same_cell c d ≡ true → c ≡ d
same_is (ram_byte i) (ram_byte j) e = ap ram_byte (eqb-true i j e)
same_is (ram_byte i) waiting_bytes e = absurd (true≢false (sym e))
same_is (ram_byte i) (pending_level l) e = absurd (true≢false (sym e))
same_is waiting_bytes (ram_byte j) e = absurd (true≢false (sym e))
same_is waiting_bytes waiting_bytes e = refl
same_is waiting_bytes (pending_level l) e = absurd (true≢false (sym e))
same_is (pending_level k) (ram_byte j) e = absurd (true≢false (sym e))
same_is (pending_level k) waiting_bytes e = absurd (true≢false (sym e))
same_is (pending_level k) (pending_level l) e = ap pending_level (eqb-true k l e)

flip : (p q : Bool) → (p ≡ true → q ≡ true) → (q ≡ true → p ≡ true) → p ≡ q
flip true q f g = sym (f refl)
flip false true f g = g refl
flip false false f g = refl

pub cell_swap : (c d : model.Cell) → same_cell c d ≡ same_cell d c
cell_swap c d = flip (same_cell c d) (same_cell d c) (one c d) (one d c)
  where
    one : (c d : model.Cell) → same_cell c d ≡ true → same_cell d c ≡ true
    one c d h = let e = same_is c d h in rw e (same_self d)

pair_true : (a b : ℕ) (c d : model.Cell) → (a == b && same_cell c d) ≡ true → (a ≡ b) × (c ≡ d)
pair_true a b c d h = go (a == b) (same_cell c d) refl refl h
  where
    go : (x y : Bool) → (a == b) ≡ x → same_cell c d ≡ y → (x && y) ≡ true → (a ≡ b) × (c ≡ d)
    go true true p q h = (eqb-true a b p, same_is c d q)
    go true false p q h = absurd (true≢false (sym h))
    go false y p q h = absurd (true≢false (sym h))

none_twice : (b : Bool) (o : Option Value) → o ≡ None → o ≡ cond b None o
none_twice true o e = e
none_twice false o e = refl

pub kept_in-append : (j : ℕ) (c : model.Cell) (xs ys : List Kept) → kept_in j c (xs ++ ys) ≡ cond (is_some (kept_in j c xs)) (kept_in j c xs) (kept_in j c ys)
kept_in-append j c [] ys = refl
kept_in-append j c (x ∷ xs) ys = step (is_kept_of j c x) (kept_in-append j c xs ys)
  where
    step : (b : Bool) → kept_in j c (xs ++ ys) ≡ cond (is_some (kept_in j c xs)) (kept_in j c xs) (kept_in j c ys)
        → cond b (Some (content_of x.content)) (kept_in j c (xs ++ ys))
        ≡ cond (is_some (cond b (Some (content_of x.content)) (kept_in j c xs))) (cond b (Some (content_of x.content)) (kept_in j c xs)) (kept_in j c ys)
    step true e = refl
    step false e = e

-- ---- a value is taken out, or put in

module _ (at : ℕ) (cell : Cell) where
  abbrev rest : List Kept → List Kept
  rest xs = filter (λ k. not (is_kept_of at (cell_of cell) k)) xs

  pub kept_in-without : (j : ℕ) (c : model.Cell) (xs : List Kept) → kept_in j c (filter (λ k. not (is_kept_of at (cell_of cell) k)) xs) ≡ cond (j == at && same_cell (cell_of cell) c) None (kept_in j c xs)
  kept_in-without j c [] = none_twice (j == at && same_cell (cell_of cell) c) None refl
  kept_in-without j c (x ∷ xs) = go (is_kept_of at (cell_of cell) x) refl (kept_in-without j c xs)
    where
      look : Bool
      look = is_kept_of j c x

      same : Bool
      same = j == at && same_cell (cell_of cell) c

      dropped : (l s : Bool) → l ≡ s → kept_in j c (rest xs) ≡ cond s None (kept_in j c xs) → kept_in j c (rest xs) ≡ cond s None (cond l (Some (content_of x.content)) (kept_in j c xs))
      dropped l true e h = h
      dropped l false e h = rw e h

      stays : (l s : Bool) → (l ≡ true → s ≡ false) → kept_in j c (rest xs) ≡ cond s None (kept_in j c xs)
          → cond l (Some (content_of x.content)) (kept_in j c (rest xs)) ≡ cond s None (cond l (Some (content_of x.content)) (kept_in j c xs))
      stays true s f h = rw (f refl)
      stays false s f h = h

      hit_same : is_kept_of at (cell_of cell) x ≡ true → look ≡ same
      hit_same h = let p = pair_true x.offset at (cell_of x.cell) (cell_of cell) h in rw (p.0, p.1) (ap (λ b. b && same_cell (cell_of cell) c) (swap at j))
        where
          swap : (a b : ℕ) → (a == b) ≡ (b == a)
          swap a b = flip (a == b) (b == a) (λ e. eq-eqb b a (sym (eqb-true a b e))) (λ e. eq-eqb a b (sym (eqb-true b a e)))

      not_hit : is_kept_of at (cell_of cell) x ≡ false → look ≡ true → same ≡ false
      not_hit h e =
          let p = pair_true x.offset j (cell_of x.cell) c e in
          let q = rw (p.0, p.1) at h in
          ap (λ b. j == at && b) (cell_swap (cell_of cell) c) ∙ q

      go : (hit : Bool) → is_kept_of at (cell_of cell) x ≡ hit → kept_in j c (rest xs) ≡ cond same None (kept_in j c xs) → kept_in j c (cond (not hit) (x ∷ rest xs) (rest xs)) ≡ cond same None (kept_in j c (x ∷ xs))
      go true h ih = dropped look same (hit_same h) ih
      go false h ih = stays look same (not_hit h) ih

  pub kept_in-with : (j : ℕ) (c : model.Cell) (content : Content) (xs : List Kept)
      → kept_in j c (filter (λ k. not (is_kept_of at (cell_of cell) k)) xs ++ record { offset = at; cell = cell; content = content } ∷ []) ≡ cond (j == at && same_cell (cell_of cell) c) (Some (content_of content)) (kept_in j c xs)
  kept_in-with j c content xs =
      kept_in-append j c (rest xs) (record { offset = at; cell = cell; content = content } ∷ [])
      ∙ rw (kept_in-without j c xs) (ends (j == at && same_cell (cell_of cell) c) (at == j && same_cell (cell_of cell) c) (swap at j) (kept_in j c xs))
    where
      swap : (a b : ℕ) → (a == b && same_cell (cell_of cell) c) ≡ (b == a && same_cell (cell_of cell) c)
      swap a b = ap (λ x. x && same_cell (cell_of cell) c) (flip (a == b) (b == a) (λ e. eq-eqb b a (sym (eqb-true a b e))) (λ e. eq-eqb a b (sym (eqb-true b a e))))

      ends : (s l : Bool) → l ≡ s → (o : Option Value) → cond (is_some (cond s None o)) (cond s None o) (cond l (Some (content_of content)) None) ≡ cond s (Some (content_of content)) o
      ends true l e o = rw e
      ends false l e None = rw e
      ends false l e (Some w) = refl

-- ---- the values of some cells go

pub kept_in-filter : (j : ℕ) (c : model.Cell) (gone : model.Cell → Bool) (xs : List Kept) → kept_in j c (filter (λ k. not (gone (cell_of k.cell))) xs) ≡ cond (gone c) None (kept_in j c xs)
kept_in-filter j c gone [] = none_twice (gone c) None refl
kept_in-filter j c gone (x ∷ xs) = go (gone (cell_of x.cell)) refl (is_kept_of j c x) refl (kept_in-filter j c gone xs)
  where
    left : List Kept
    left = filter (λ k. not (gone (cell_of k.cell))) xs

    same : is_kept_of j c x ≡ true → cell_of x.cell ≡ c
    same h = (pair_true x.offset j (cell_of x.cell) c h).1

    go : (g : Bool) → gone (cell_of x.cell) ≡ g → (l : Bool) → is_kept_of j c x ≡ l → kept_in j c left ≡ cond (gone c) None (kept_in j c xs)
        → kept_in j c (cond (not g) (x ∷ left) left) ≡ cond (gone c) None (cond l (Some (content_of x.content)) (kept_in j c xs))
    go true h true e ih =
        let f : gone c ≡ true = ap gone (sym (same e)) ∙ h in
        let i = rw f at ih in
        rw f i
    go true h false e ih = ih
    go false h true e ih = let f : gone c ≡ false = ap gone (sym (same e)) ∙ h in rw (e, f)
    go false h false e ih = rw e ih
