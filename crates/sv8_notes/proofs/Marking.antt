-- Marks of words, and what they say of steps.
use Rattle.std.proofs.Common.{◌≡◌, ◌≢◌, ℕ, zero, suc, ◌+◌, ◌-◌, ◌*◌, ◌/◌, ◌%◌, ◌≤◌, ◌<◌, List, [], ◌∷◌, ◌++◌, length, length-append, take, take_all, replicate, get_or, false, Option, Some, unwrap_or, refl, ◌∙◌, ap, arith, inl, inr, ◌⊎◌, ne_eqb}
use Rattle.std.proofs.lemmas.Bool.{cases_eq}
use Rattle.std.proofs.lemmas.Option.{none-some}
use Rattle.sv8_notes.specs.declared.notes.WordNote.{WordNote}
use Rattle.sv8_notes.specs.declared.notes.Sought.{Sought}
use Rattle.sv8_notes.specs.declared.notes.Sought.TheVariants.{Read, Write, Touch, Input}
use Rattle.sv8_notes.specs.declared.cell.Cell.TheVariants.{Byte, Level}
use Rattle.sv8_notes.specs.Sought.{is_met, sought_word}
use Rattle.sv8_notes.specs.Steps.{Steps, is_word_of, has_word, footprint_in}
use Rattle.sv8_notes.specs.Marks.{mark_of, IsUntouched}

-- ---- more marks

-- a list with one element more
pub longer : {A : Type 0} (xs ys : List A) (x : A) → ys ≡ xs ++ x ∷ [] → length ys ≡ length xs + 1
longer xs ys x e = ap length e ∙ length-append xs (x ∷ [])

-- a page without marks more is as none
pub same_marks : (ps qs : List (List ℕ)) (a : ℕ) → qs ≡ ps ++ [] ∷ [] → mark_of qs a ≡ mark_of ps a
same_marks ps qs a e = rw e (ap (λ q. get_or q (a % 4096 / 4) 0) (no_page ps (a / 4096)))
  where
    no_page : (ps : List (List ℕ)) (p : ℕ) → get_or (ps ++ [] ∷ []) p [] ≡ get_or ps p []
    no_page [] zero = refl
    no_page [] (suc p) = refl
    no_page (q ∷ qs) zero = refl
    no_page (q ∷ qs) (suc p) = no_page qs p

-- a page of marks that has got longer shows the same
pub filled : (xs ys : List ℕ) (n : ℕ) → length xs ≤ n → ys ≡ take n xs ++ replicate (n - length xs) 0 → (i : ℕ) → get_or ys i 0 ≡ get_or xs i 0
filled xs ys n le is i = rw (is, take_all n xs le) (go xs i)
  where
    zeros : (m i : ℕ) → get_or {A = ℕ} (replicate m 0) i 0 ≡ zero
    zeros zero i = refl
    zeros (suc m) zero = refl
    zeros (suc m) (suc i) = zeros m i

    go : (zs : List ℕ) (i : ℕ) → get_or (zs ++ replicate (n - length xs) 0) i 0 ≡ get_or zs i 0
    go [] i = zeros (n - length xs) i
    go (z ∷ zs) zero = refl
    go (z ∷ zs) (suc i) = go zs i

-- ---- the words of notes

-- where each note's word has a mark that is great enough, a word with a lesser one has no note
pub unmarked : (words : List WordNote) (marks : List (List ℕ)) (mark : ℕ) → ((i : ℕ) (d : WordNote) → i < length words → mark ≤ mark_of marks (get_or words i d).address)
    → (a : ℕ) → mark_of marks a < mark → (j : ℕ) → has_word words a j ≡ false
unmarked [] marks mark all a less j = refl
unmarked (n ∷ ns) marks mark all a less j = rw (first (cases_eq n.address a), unmarked ns marks mark (λ i d h. all (suc i) d (omega arith)) a less j)
  where
    first : (n.address ≡ a) ⊎ (n.address ≢ a) → is_word_of a j n ≡ false
    first (inl e) = let l = all 0 n (omega arith) in absurd (omega (arith, l, less, ap (mark_of marks) e))
    first (inr ne) = rw (ne_eqb n.address a ne)

-- ---- the search

-- what is sought of a word is not met by a step that does not touch it
pub unmet : (sought : Sought) (word offset : ℕ) (s : Steps) → sought_word sought ≡ Some word → IsUntouched s word → is_met sought (footprint_in s offset) ≡ false
unmet (Read (Byte a)) word offset s e none = let i : 4 * (a / 4) ≡ word = ap (λ (o : Option ℕ). unwrap_or o 0) e in rw (i, (none offset).0) (none offset).1
unmet (Read (Level l)) word offset s e none = absurd (none-some word e)
unmet (Write (Byte a)) word offset s e none = let i : 4 * (a / 4) ≡ word = ap (λ (o : Option ℕ). unwrap_or o 0) e in rw i (none offset).2
unmet (Write (Level l)) word offset s e none = absurd (none-some word e)
unmet (Touch (Byte a)) word offset s e none = let i : 4 * (a / 4) ≡ word = ap (λ (o : Option ℕ). unwrap_or o 0) e in rw (i, (none offset).0, (none offset).1) (none offset).2
unmet (Touch (Level l)) word offset s e none = absurd (none-some word e)
unmet Input word offset s e none = absurd (none-some word e)
