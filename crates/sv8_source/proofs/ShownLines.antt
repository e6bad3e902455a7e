-- The listing, line by line.
use Rattle.std.proofs.Common.{◌≡◌, ◌-◌, length, arith, ap, ℕ, zero, suc, List, [], ◌∷◌, Option, Some, None, refl, sym, ◌∙◌, sub-one}
use Rattle.std.specs.List.{slice_get}
use Rattle.sv8_source.specs.Layout.{Place}
use Rattle.sv8_source.specs.Listing.{ListedLine, shown, shown_line, numbered}

abbrev pub both : Option Place → Option (List ℕ) → Option ListedLine
both (Some p) (Some b) = Some (shown_line p b)
both _ _ = None

both-none : (o : Option Place) → both o None ≡ None
both-none (Some p) = refl
both-none None = refl

pub slice_get-shown : (ps : List Place) (bs : List (List ℕ)) (i : ℕ) → slice_get (shown ps bs) i ≡ both (slice_get ps i) (slice_get bs i)
slice_get-shown [] bs i = refl
slice_get-shown (p ∷ ps) [] i = sym (both-none (slice_get (p ∷ ps) i))
slice_get-shown (p ∷ ps) (b ∷ bs) zero = refl
slice_get-shown (p ∷ ps) (b ∷ bs) (suc i) = slice_get-shown ps bs i

pub line_found : (ps : List Place) (bs : List (List ℕ)) (n : ℕ) (p : Place) (b : List ℕ) → (n ≡ 0 → ⊥) → slice_get ps (n - 1) ≡ Some p → slice_get bs (n - 1) ≡ Some b → numbered (shown ps bs) n ≡ Some (shown_line p b)
line_found ps bs zero p b h e f = absurd (h refl)
line_found ps bs (suc n) p b h e f = slice_get-shown ps bs n ∙ cc (rw sub-one at e, rw sub-one at f)

pub no_place : (ps : List Place) (bs : List (List ℕ)) (n : ℕ) → (n ≡ 0 → ⊥) → slice_get ps (n - 1) ≡ None → numbered (shown ps bs) n ≡ None
no_place ps bs zero h e = refl
no_place ps bs (suc n) h e = slice_get-shown ps bs n ∙ rw (rw sub-one at e) refl

pub no_bytes : (ps : List Place) (bs : List (List ℕ)) (n : ℕ) → (n ≡ 0 → ⊥) → slice_get bs (n - 1) ≡ None → numbered (shown ps bs) n ≡ None
no_bytes ps bs zero h e = refl
no_bytes ps bs (suc n) h e = slice_get-shown ps bs n ∙ rw (rw sub-one at e) (both-none (slice_get ps n))

-- as many lines are shown as stand
pub shown_count : (ps : List Place) (bs : List (List ℕ)) → length bs ≡ length ps → length (shown ps bs) ≡ length ps
shown_count [] bs e = refl
shown_count (p ∷ ps) [] e = absurd (cc)
shown_count (p ∷ ps) (b ∷ bs) e = let k : length bs ≡ length ps = omega arith in ap (λ n. suc n) (shown_count ps bs k)
