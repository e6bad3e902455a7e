-- Bytes whose words are touched, of lists of touches.
use Rattle.std.proofs.Common.{◌≡◌, ℕ, ◌==◌, Bool, true, false, List, [], ◌∷◌, ◌++◌, refl, sym, ◌∙◌, ap, arith}
use Rattle.std.specs.Prelude.{not, ◌&&◌, ◌||◌}
use Rattle.std.specs.List.{list_any}
use Rattle.std.proofs.Math.Bool.{or-true}
use Rattle.std.proofs.lemmas.Bool.Decides.{nat_tests}
use Rattle.std.proofs.lemmas.List.Folds.{list_any-append}
use Rattle.sv8_model.specs.declared.touch.Touch.{Touch}
use Rattle.sv8_model.specs.declared.touch.Touch.TheVariants.{Read, Write}
use Rattle.sv8_model.specs.declared.observation.Observation.{Observation}
use Rattle.sv8_model.specs.declared.observation.Observation.TheVariants as seen
use Rattle.sv8_model.specs.Outside.{word_address}
use Rattle.sv8_model.specs.Footprint.{is_read_of, is_write_of, is_touch_of}
use Rattle.sv8_cpu.specs.Touching.{touches_byte, IsTouched}

merge : (a b x y z : Bool) → (x || (y && not x)) ≡ z → ((a || x) || ((b || y) && not (a || x))) ≡ ((a || b) || z)
merge true b x y z e = refl
merge false true true y z e = refl
merge false true false y z e = refl
merge false false x y z e = e

either : (p q : Touch → Bool) (ts : List Touch) → (list_any p ts || (list_any q ts && not (list_any p ts))) ≡ list_any (λ t. p t || q t) ts
either p q [] = refl
either p q (t ∷ ts) = merge (p t) (q t) (list_any p ts) (list_any q ts) (list_any (λ u. p u || q u) ts) (either p q ts)

-- the word of a byte is touched where some touch is of it
pub touched_is : (ts : List Touch) (i : ℕ) → touches_byte ts i ≡ list_any (is_touch_of (word_address i)) ts
touched_is ts i = either (is_read_of (word_address i)) (is_write_of (word_address i)) ts

same_word : (a b : ℕ) → a ≡ b → (a == b) ≡ true
same_word a b e = grind (arith, nat_tests, e)

pub read_here : (at i : ℕ) (ts : List Touch) → at ≡ word_address i → touches_byte (Read at ∷ ts) i ≡ true
read_here at i ts e = touched_is (Read at ∷ ts) i ∙ ap (λ b. (b || false) || list_any (is_touch_of (word_address i)) ts) (same_word at (word_address i) e)

pub write_here : (at i : ℕ) (ts : List Touch) → at ≡ word_address i → touches_byte (Write at ∷ ts) i ≡ true
write_here at i ts e = touched_is (Write at ∷ ts) i ∙ ap (λ b. b || list_any (is_touch_of (word_address i)) ts) (same_word at (word_address i) e)

or_front : (a b : Bool) → a ≡ true → (a || b) ≡ true
or_front a b h = ap (λ x. x || b) h

or_behind : (a b : Bool) → b ≡ true → (a || b) ≡ true
or_behind a b h = ap (λ x. a || x) h ∙ or-true a

pub touched_front : (ts us : List Touch) (i : ℕ) → touches_byte ts i ≡ true → touches_byte (ts ++ us) i ≡ true
touched_front ts us i h =
    touched_is (ts ++ us) i ∙ list_any-append (is_touch_of (word_address i)) ts us ∙ or_front _ (list_any (is_touch_of (word_address i)) us) (sym (touched_is ts i) ∙ h)

pub touched_behind : (ts us : List Touch) (i : ℕ) → touches_byte us i ≡ true → touches_byte (ts ++ us) i ≡ true
touched_behind ts us i h =
    touched_is (ts ++ us) i ∙ list_any-append (is_touch_of (word_address i)) ts us ∙ or_behind (list_any (is_touch_of (word_address i)) ts) _ (sym (touched_is us i) ∙ h)

-- ---- what is seen

pub front_touched : (limit : ℕ) (ts us : List Touch) (s : Observation) → IsTouched limit ts s → IsTouched limit (ts ++ us) s
front_touched limit ts us (seen.Fetch from word) h = touched_front ts us from h
front_touched limit ts us (seen.Access kind bytes va pa) h = (h.0, λ inside i low high. touched_front ts us i (h.1 inside i low high))
front_touched limit ts us (seen.Trap type) h = tt

pub behind_touched : (limit : ℕ) (ts us : List Touch) (s : Observation) → IsTouched limit us s → IsTouched limit (ts ++ us) s
behind_touched limit ts us (seen.Fetch from word) h = touched_behind ts us from h
behind_touched limit ts us (seen.Access kind bytes va pa) h = (h.0, λ inside i low high. touched_behind ts us i (h.1 inside i low high))
behind_touched limit ts us (seen.Trap type) h = tt
