-- Lemmas on words and numbers.
use Rattle.std.proofs.Common.{◌≡◌, ℕ, suc, ◌+◌, ◌-◌, ◌^◌, ◌<◌, ◌≤◌, true, false, not, zero, add-one, List, [], ◌∷◌, ◌++◌, length, take, drop, get_or, refl, sym, ap, ◌∙◌, subst, arith, drop-cons}
use Rattle.std.proofs.lemmas.Bool.{false≢true}
use Rattle.std.proofs.lemmas.List.{take_rest, take_all, append-nil}
use Rattle.std.proofs.Math.Nat.{pow-le-pow_right}
use Rattle.std.proofs.Math.Seq.{take-append_seam, take-suc, take-length, drop-length}
use Rattle.sv8_commands.specs.Words.{is_gap, closed, words_from, words_of, starts_word, bytes_in}

pub words_from-gap : (w : List ℕ) (b : ℕ) (bs : List ℕ) → is_gap b ≡ true → words_from w (b ∷ bs) ≡ closed w ++ words_from [] bs
words_from-gap w b bs h = rw h refl

-- a gap before the first word is passed over
pub words_of-gap : (b : ℕ) (bs : List ℕ) → is_gap b ≡ true → words_of bs ≡ words_of (b ∷ bs)
unfolding words_of
words_of-gap b bs h = sym (words_from-gap [] b bs h)

-- the first word ends at a gap
pub word-ends : (text : List ℕ) (i : ℕ) → i < length text → starts_word text ≡ true → is_gap (get_or text i 0) ≡ true → words_from (take i text) (drop i text) ≡ words_of text
    → words_of text ≡ take i text ∷ words_of (drop i text)
unfolding words_of
word-ends [] i h start gap was = absurd (omega arith)
word-ends (x ∷ xs) zero h start gap was = absurd (false≢true (sym (ap not gap) ∙ start))
word-ends (x ∷ xs) (suc k) h start gap was =
    let here : words_from (x ∷ take k xs) (drop k xs) ≡ (x ∷ take k xs) ∷ words_from [] (drop (suc k) xs) =
    ap (words_from (x ∷ take k xs)) (drop-cons xs k 0 (omega arith)) ∙ words_from-gap (x ∷ take k xs) (get_or xs k 0) (drop (suc k) xs) gap in
    let rest : words_from [] (drop k xs) ≡ words_from [] (drop (suc k) xs) =
    ap (words_from []) (drop-cons xs k 0 (omega arith)) ∙ words_from-gap [] (get_or xs k 0) (drop (suc k) xs) gap in
    sym was ∙ here ∙ ap (λ l. (x ∷ take k xs) ∷ l) (sym rest)

-- the first word goes to the end
pub word-whole : (text : List ℕ) → starts_word text ≡ true → words_from (take (length text) text) (drop (length text) text) ≡ words_of text → words_of text ≡ text ∷ words_of (drop (length text) text)
unfolding words_of
word-whole [] start was = absurd (false≢true start)
word-whole (x ∷ xs) start was =
    let none : drop (length (x ∷ xs)) (x ∷ xs) ≡ [] = drop-length (x ∷ xs) in
    let whole : take (length (x ∷ xs)) (x ∷ xs) ≡ x ∷ xs = take-length (x ∷ xs) in
    sym was ∙ rw (none, whole) refl

-- a gap before the first word is passed over, where what is left is written as a range
pub words_of-rest : (text rest : List ℕ) → 0 < length rest → is_gap (get_or rest 0 0) ≡ true → words_of rest ≡ words_of text → words_of (take (length rest - 1) (drop 1 rest)) ≡ words_of text
words_of-rest text [] h gap was = absurd (omega arith)
words_of-rest text (b ∷ bs) h gap was = rw take_rest (words_of-gap b bs gap ∙ was)

-- no byte is left
pub words_of-none : (text rest : List ℕ) → length rest < 1 → words_of rest ≡ words_of text → words_of text ≡ []
unfolding words_of
words_of-none text [] h was = sym was
words_of-none text (b ∷ bs) h was = absurd (omega arith)

-- a number of some digits, told of more digits
pub below-digits : (n i most : ℕ) → n + 1 ≤ 16 ^ i → i ≤ most → n < 16 ^ most
below-digits n i most h k = let g : 16 ^ i ≤ 16 ^ most = pow-le-pow_right {n = 16} (omega arith) k in omega arith

-- so many bytes were taken, and others may be left
pub bytes-many : (most : ℕ) (taken rest all : List ℕ) → taken ++ rest ≡ all → length taken ≡ most → taken ≡ take most all
bytes-many most taken rest all e h = subst (λ n. taken ≡ take n all) h (sym (ap (take (length taken)) (sym e) ∙ take-append_seam taken rest))

-- no pair of digits is left
pub bytes-end : (most : ℕ) (taken digits all : List ℕ) → length digits < 2 → length taken ≤ most → taken ++ bytes_in digits ≡ all → taken ≡ take most all
bytes-end most taken [] all h k e = let same = sym (append-nil taken) ∙ e in sym (ap (take most) (sym same) ∙ take_all most taken k)
bytes-end most taken (d ∷ []) all h k e = let same = sym (append-nil taken) ∙ e in sym (ap (take most) (sym same) ∙ take_all most taken k)
bytes-end most taken (d ∷ f ∷ rest) all h k e = absurd (omega arith)
