-- The lines of a text, and what their first difference says of it.
use Rattle.std.proofs.Common.{◌≡◌, ◌≢◌, ◌<◌, ◌∙◌, sym, [], ◌∷◌, Some, None, length, take, ℕ, suc, ◌+◌, Bool, true, false, not, cond, List, refl, ap, arith}
use Rattle.std.specs.Prelude.{bytes_eq, eqb, drop}
use Rattle.std.specs.List.{concat}
use Rattle.std.proofs.lemmas.List.{length-drop}
use Rattle.std.proofs.lemmas.Slice.Eq.{bytes_eq-Decides}
use Rattle.sv8_difference.specs.Difference.{with_byte, lines, first_of, line_end, difference, difference_from, IsSplit}

-- where the first line ends, byte by byte
unfoldable pub end_by_bytes : List ℕ → ℕ
end_by_bytes [] = 0
end_by_bytes (b ∷ text) = cond (eqb b 10) 1 (suc (end_by_bytes text))

longer : (b : ℕ) (ls : List (List ℕ)) → suc (length (first_of ls)) ≡ length (first_of (with_byte b ls))
unfolding with_byte first_of
longer b [] = refl
longer b (l ∷ ls) = refl

pub same_end : (text : List ℕ) → end_by_bytes text ≡ line_end text
unfolding end_by_bytes lines line_end first_of
same_end [] = refl
same_end (b ∷ text) =
    elim (eqb b 10) as (λ (q : Bool). cond q 1 (suc (end_by_bytes text)) ≡ length (first_of (cond q ((b ∷ []) ∷ lines text) (with_byte b (lines text)))))
    [ true ↦ refl | false ↦ ap suc (same_end text) ∙ longer b (lines text) ]

-- a text that has not ended has a first line
first_line : (b : ℕ) (text : List ℕ) → lines (b ∷ text) ≡ take (end_by_bytes (b ∷ text)) (b ∷ text) ∷ lines (drop (end_by_bytes (b ∷ text)) (b ∷ text))
unfolding with_byte lines end_by_bytes
first_line b [] =
    elim (eqb b 10) as (λ (q : Bool). cond q ((b ∷ []) ∷ []) ((b ∷ []) ∷ []) ≡ take (cond q 1 1) (b ∷ []) ∷ lines (drop (cond q 1 1) (b ∷ [])))
    [ true ↦ refl | false ↦ refl ]
first_line b (c ∷ text) =
    elim (eqb b 10) as (λ (q : Bool). cond q ((b ∷ []) ∷ lines (c ∷ text)) (with_byte b (lines (c ∷ text)))
    ≡ take (cond q 1 (suc (end_by_bytes (c ∷ text)))) (b ∷ c ∷ text) ∷ lines (drop (cond q 1 (suc (end_by_bytes (c ∷ text)))) (b ∷ c ∷ text)))
    [ true ↦ refl | false ↦ ap (with_byte b) (first_line c text) ]

-- which has a byte at least
some_byte : (b : ℕ) (text : List ℕ) → take (end_by_bytes (b ∷ text)) (b ∷ text) ≢ []
unfolding end_by_bytes
some_byte b text =
    elim (eqb b 10) as (λ (q : Bool). take (cond q 1 (suc (end_by_bytes text))) (b ∷ text) ≢ [])
    [ true ↦ λ e. absurd (cc) | false ↦ λ e. absurd (cc) ]

-- and what is left is shorter
shorter : (b : ℕ) (text : List ℕ) → length (drop (end_by_bytes (b ∷ text)) (b ∷ text)) < length (b ∷ text)
unfolding end_by_bytes
shorter b text =
    elim (eqb b 10) as (λ (q : Bool). length (drop (cond q 1 (suc (end_by_bytes text))) (b ∷ text)) < length (b ∷ text))
    [ true ↦ omega arith | false ↦ rw (length-drop (end_by_bytes text) text) (omega arith) ]

by_bytes : (text : List ℕ) → IsSplit text (take (end_by_bytes text) text) (drop (end_by_bytes text) text)
unfolding end_by_bytes
by_bytes [] = (refl, refl)
by_bytes (b ∷ text) = (first_line b text, some_byte b text, shorter b text)

pub splits : (text : List ℕ) → IsSplit text (take (line_end text) text) (drop (line_end text) text)
splits text = rw (sym (same_end text)) (by_bytes text)

-- the first lines differ
pub differs : (n : ℕ) (due came dl dr cl cr : List ℕ) → IsSplit due dl dr → IsSplit came cl cr → dl ≢ cl → difference_from n (lines due) (lines came) ≡ Some (n, dl, cl)
unfolding lines difference_from
differs n [] [] dl dr cl cr s t h = absurd (h (s.0 ∙ sym t.0))
differs n (d ∷ due) [] dl dr cl cr s t h = rw s.0 (rw t.0 refl)
differs n [] (c ∷ came) dl dr cl cr s t h = rw t.0 (rw s.0 refl)
differs n (d ∷ due) (c ∷ came) dl dr cl cr s t h = rw s.0 (rw t.0 (
    elim (bytes_eq dl cl) as (λ (q : Bool). bytes_eq dl cl ≡ q → cond q (difference_from (n + 1) (lines dr) (lines cr)) (Some (n, dl, cl)) ≡ Some (n, dl, cl))
    [ true ↦ λ e. absurd (h ((bytes_eq-Decides dl cl).0 e)) | false ↦ λ e. refl ] refl))

-- the first lines are the same: what is left has the difference, and is shorter
pub same_line : (n : ℕ) (due came dl dr cl cr : List ℕ) → IsSplit due dl dr → IsSplit came cl cr → dl ≡ cl → (due ≡ [] → came ≢ [])
    → (difference_from (n + 1) (lines dr) (lines cr) ≡ difference_from n (lines due) (lines came)) × (length dr < length due)
unfolding difference_from
same_line n [] [] dl dr cl cr s t h some = absurd (some refl refl)
same_line n (d ∷ due) [] dl dr cl cr s t h some = absurd (s.1 (h ∙ t.0))
same_line n [] (c ∷ came) dl dr cl cr s t h some = absurd (t.1 (sym h ∙ s.0))
same_line n (d ∷ due) (c ∷ came) dl dr cl cr s t h some = (rw s.0 (rw t.0 (rw ((bytes_eq-Decides dl cl).1 h) refl)), s.2)

-- the lines are the text
concat_with : (b : ℕ) (ls : List (List ℕ)) → concat (with_byte b ls) ≡ b ∷ concat ls
unfolding with_byte
concat_with b [] = refl
concat_with b (l ∷ ls) = refl

whole : (text : List ℕ) → concat (lines text) ≡ text
unfolding lines
whole [] = refl
whole (b ∷ text) =
    elim (eqb b 10) as (λ (q : Bool). concat (cond q ((b ∷ []) ∷ lines text) (with_byte b (lines text))) ≡ b ∷ text)
    [ true ↦ ap (λ (t : List ℕ). b ∷ t) (whole text) | false ↦ concat_with b (lines text) ∙ ap (λ (t : List ℕ). b ∷ t) (whole text) ]

-- lines with no difference are the same
no_difference : (n : ℕ) (due came : List (List ℕ)) → difference_from n due came ≡ None → due ≡ came
unfolding difference_from
no_difference n [] [] h = refl
no_difference n (d ∷ due) [] h = absurd (cc)
no_difference n [] (c ∷ came) h = absurd (cc)
no_difference n (d ∷ due) (c ∷ came) h =
    elim (bytes_eq d c) as (λ (q : Bool). bytes_eq d c ≡ q → cond q (difference_from (n + 1) due came) (Some (n, d, c)) ≡ None → (d ∷ due) ≡ (c ∷ came)) [
      | true ↦ λ e k. rw ((bytes_eq-Decides d c).0 e) (ap (λ (ls : List (List ℕ)). c ∷ ls) (no_difference (n + 1) due came k))
      | false ↦ λ e k. absurd (cc)
    ] refl h

-- and the same lines have none
same_lines : (n : ℕ) (ls : List (List ℕ)) → difference_from n ls ls ≡ None
unfolding difference_from
same_lines n [] = refl
same_lines n (l ∷ ls) = rw ((bytes_eq-Decides l l).1 refl) (same_lines (n + 1) ls)

-- so two texts have no difference exactly where they are the same
pub same_texts : (due came : List ℕ) → difference due came ≡ None → due ≡ came
same_texts due came h = sym (whole due) ∙ ap concat (no_difference 1 (lines due) (lines came) h) ∙ whole came

pub same_text : (text : List ℕ) → difference text text ≡ None
same_text text = same_lines 1 (lines text)

-- what a test of two texts says
pub other_texts : (xs ys : List ℕ) (r : Bool) → r ≡ not (bytes_eq xs ys) → r ≡ true → xs ≢ ys
other_texts xs ys r h t e = let k = (bytes_eq-Decides xs ys).1 e in absurd (cc)

pub equal_texts : (xs ys : List ℕ) (r : Bool) → r ≡ not (bytes_eq xs ys) → r ≡ false → xs ≡ ys
equal_texts xs ys r h f =
    elim (bytes_eq xs ys) as (λ (q : Bool). bytes_eq xs ys ≡ q → xs ≡ ys)
    [ true ↦ λ e. (bytes_eq-Decides xs ys).0 e | false ↦ λ e. absurd (cc) ] refl

-- both texts have ended
pub ended : (n : ℕ) (due came : List ℕ) → due ≡ [] → came ≡ [] → difference_from n (lines due) (lines came) ≡ None
unfolding lines difference_from
ended n due came h k = rw h (rw k refl)
