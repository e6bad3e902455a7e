-- Lists of bytes and of levels with a value at one place.
use Rattle.std.proofs.Common.{◌≡◌, ◌≢◌, ℕ, zero, suc, ◌+◌, ◌*◌, ◌/◌, ◌%◌, ◌^◌, ◌<◌, Bool, true, false, List, [], ◌∷◌, length, get_or, set, refl, sym, ◌∙◌, ap, ap₂, arith, inl, inr}
use Rattle.std.specs.Prelude.{not, ◌&&◌}
use Rattle.std.proofs.Math.Bool.{and-false}
use Rattle.std.proofs.lemmas.List.{length-set, get_or-set_same, get_or-set_other, get_or_past}
use Rattle.std.proofs.lemmas.Bool.{cases_eq, cases_lt}
use Rattle.sv8_model.specs.Words.{bit}
use Rattle.sv8_model.specs.Levels.{masked_from, unmasked_from}
use Rattle.sv8_model.specs.Outside.{with_word}

-- a write at one place of two lists of one length
pub set_alike : {A : Type 0} (r r' : List A) (d : A) → length r ≡ length r' → (i j : ℕ) (b : A) → (i ≢ j → get_or r i d ≡ get_or r' i d) → get_or (set r j b) i d ≡ get_or (set r' j b) i d
set_alike r r' d e i j b h = elim (cases_eq i j) [ inl p ↦ rw p (elim (cases_lt j (length r)) [ inl l ↦ get_or-set_same r j b d l ∙ sym (get_or-set_same r' j b d (rw (← e) l)) | inr g ↦ rw (get_or_past (set r j b) j d (rw length-set g), get_or_past (set r' j b) j d (rw (length-set, ← e) g)) ]) | inr n ↦ get_or-set_other r j i b d n ∙ h n ∙ sym (get_or-set_other r' j i b d n) ]

pub set_sizes : {A : Type 0} (r r' : List A) (j : ℕ) (b : A) → length r ≡ length r' → length (set r j b) ≡ length (set r' j b)
set_sizes r r' j b e = length-set r j b ∙ e ∙ sym (length-set r' j b)

-- each element of a list with one more value has what the value and the others have
pub set_each : {A : Type 0} (P : A → Type 0) (r : List A) (d : A) (j : ℕ) (b : A) → ((i : ℕ) → P (get_or r i d)) → P b → (i : ℕ) → P (get_or (set r j b) i d)
set_each P r d j b all at i = elim (cases_eq i j) [
  | inl p ↦ rw p (elim (cases_lt j (length r)) [
    | inl l ↦ rw (get_or-set_same r j b d l) at
    | inr g ↦ rw (get_or_past (set r j b) j d (rw length-set g), ← get_or_past r j d g) (all j)
  ])
  | inr n ↦ rw (get_or-set_other r j i b d n) (all i)
]

-- ---- words

pub length-with_word : (r : List ℕ) (k v : ℕ) → length (with_word r k v) ≡ length r
unfolding with_word
length-with_word r k v = simp length-set

pub with_word_alike : (r r' : List ℕ) → length r ≡ length r' → (k v i : ℕ) → (i / 4 ≢ k → get_or r i 0 ≡ get_or r' i 0) → get_or (with_word r k v) i 0 ≡ get_or (with_word r' k v) i 0
unfolding with_word
with_word_alike r r' e k v i h =
    let e0 = set_sizes r r' (4 * k) (v / 2 ^ 24 % 2 ^ 8) e in
    let e1 = set_sizes _ _ (4 * k + 1) (v / 2 ^ 16 % 2 ^ 8) e0 in
    let e2 = set_sizes _ _ (4 * k + 2) (v / 2 ^ 8 % 2 ^ 8) e1 in
    set_alike _ _ 0 e2 i (4 * k + 3) _
    (λ n3. set_alike _ _ 0 e1 i (4 * k + 2) _
    (λ n2. set_alike _ _ 0 e0 i (4 * k + 1) _
    (λ n1. set_alike _ _ 0 e i (4 * k) _ (λ n0. h (omega arith)))))

pub word_other : (r : List ℕ) (k v i : ℕ) → i / 4 ≢ k → get_or (with_word r k v) i 0 ≡ get_or r i 0
unfolding with_word
word_other r k v i n =
    get_or-set_other _ (4 * k + 3) i _ 0 (λ e. n (omega arith)) ∙ get_or-set_other _ (4 * k + 2) i _ 0 (λ e. n (omega arith)) ∙
    get_or-set_other _ (4 * k + 1) i _ 0 (λ e. n (omega arith)) ∙ get_or-set_other _ (4 * k) i _ 0 (λ e. n (omega arith))

abbrev pub IsByte : ℕ → Type 0
IsByte b = b < 256

pub word_bytes : (r : List ℕ) (k v : ℕ) → ((i : ℕ) → IsByte (get_or r i 0)) → (i : ℕ) → IsByte (get_or (with_word r k v) i 0)
unfolding with_word
word_bytes r k v all =
    set_each IsByte _ 0 (4 * k + 3) _
    (set_each IsByte _ 0 (4 * k + 2) _
    (set_each IsByte _ 0 (4 * k + 1) _
    (set_each IsByte _ 0 (4 * k) _ all (omega arith)) (omega arith)) (omega arith)) (omega arith)

-- ---- levels

pub length-unmasked : (k w : ℕ) (ps : List Bool) → length (unmasked_from k w ps) ≡ length ps
length-unmasked k w [] = refl
length-unmasked k w (p ∷ ps) = ap suc (length-unmasked (k + 1) w ps)

pub get_or-unmasked : (k w : ℕ) (ps : List Bool) (l : ℕ) → get_or (unmasked_from k w ps) l false ≡ (get_or ps l false && not (bit w (k + l)))
get_or-unmasked k w [] l = refl
get_or-unmasked k w (p ∷ ps) zero = ap (λ n. p && not (bit w n)) (omega arith)
get_or-unmasked k w (p ∷ ps) (suc l) = get_or-unmasked (k + 1) w ps l ∙ ap (λ n. get_or ps l false && not (bit w n)) (omega arith)

pub get_or-masked : (k w : ℕ) (ps : List Bool) (l : ℕ) → get_or (masked_from k w ps) l false ≡ (get_or ps l false && bit w (k + l))
get_or-masked k w [] l = refl
get_or-masked k w (p ∷ ps) zero = ap (λ n. p && bit w n) (omega arith)
get_or-masked k w (p ∷ ps) (suc l) = get_or-masked (k + 1) w ps l ∙ ap (λ n. get_or ps l false && bit w n) (omega arith)

pub length-masked : (k w : ℕ) (ps : List Bool) → length (masked_from k w ps) ≡ length ps
length-masked k w [] = refl
length-masked k w (p ∷ ps) = ap suc (length-masked (k + 1) w ps)

both_or_neither : (b p p' : Bool) → (b ≡ true → p ≡ p') → (p && b) ≡ (p' && b)
both_or_neither true p p' h = ap (λ q. q && true) (h refl)
both_or_neither false p p' h = and-false p ∙ sym (and-false p')

-- two lists that agree on the levels of a word
pub masked_alike : (k w : ℕ) (ps qs : List Bool) → length ps ≡ length qs → ((l : ℕ) → bit w (k + l) ≡ true → get_or ps l false ≡ get_or qs l false)
    → masked_from k w ps ≡ masked_from k w qs
masked_alike k w [] [] e h = refl
masked_alike k w [] (q ∷ qs) e h = absurd (omega arith)
masked_alike k w (p ∷ ps) [] e h = absurd (omega arith)
masked_alike k w (p ∷ ps) (q ∷ qs) e h =
    let here : k + 0 ≡ k = omega arith in
    ap₂ (λ b bs. b ∷ bs) (both_or_neither (bit w k) p q (λ t. h 0 (ap (bit w) here ∙ t)))
    (masked_alike (k + 1) w ps qs (omega arith) (λ l t. h (suc l) (ap (bit w) (omega arith) ∙ t)))
