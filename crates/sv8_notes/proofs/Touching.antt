-- What is told of a step touches a cell where the step reads or writes it.
use Rattle.std.proofs.Common.{◌≡◌, ℕ, List, [], ◌∷◌, ◌==◌, Bool, true, false, ◌&&◌, ◌||◌, refl, ◌∙◌, ap, ap₂}
use Rattle.std.specs.List.{list_any}
use Rattle.sv8_model.specs.declared.touch.Touch.{Touch}
use Rattle.sv8_model.specs.declared.touch.Touch.TheVariants.{Read, Write, Input, Levels, Expiry}
use Rattle.sv8_model.specs.Outside.{word_address}
use Rattle.sv8_model.specs.Levels.{timer_level}
use Rattle.sv8_model.specs.Footprint.{is_read_of, is_write_of, is_input, asks, is_expiry}
use Rattle.sv8_model.specs.Cells.{Cell, ram_byte, waiting_bytes, pending_level, is_read, is_written}
use Rattle.sv8_touches.specs.Told.{told}
use Rattle.sv8_touches.proofs.Common.{footprint_told, writes_told}
use Rattle.sv8_notes.specs.Touched.{is_touched, is_touched_by, is_told_written}

four : (a b c d : Bool) → ((a || b) || (c || d)) ≡ ((a || c) || (b || d))
four true b c d = refl
four false true true d = refl
four false true false d = refl
four false false true d = refl
four false false false d = refl

pub any_split : (f g h : Touch → Bool) → ((t : Touch) → h t ≡ (f t || g t)) → (ts : List Touch) → list_any h ts ≡ (list_any f ts || list_any g ts)
any_split f g h e [] = refl
any_split f g h e (t ∷ ts) = ap₂ (λ a b. a || b) (e t) (any_split f g h e ts) ∙ four (f t) (g t) (list_any f ts) (list_any g ts)

and_any : (b : Bool) (f : Touch → Bool) (ts : List Touch) → list_any (λ t. b && f t) ts ≡ (b && list_any f ts)
and_any true f ts = refl
and_any false f [] = refl
and_any false f (t ∷ ts) = and_any false f ts

or_none : (b : Bool) → b ≡ (b || false)
or_none true = refl
or_none false = refl

and_true : (b : Bool) → b ≡ (b && true)
and_true true = refl
and_true false = refl

and_none : (b : Bool) → false ≡ (b && false)
and_none true = refl
and_none false = refl

or_and_none : (a b : Bool) → a ≡ (a || (b && false))
or_and_none true b = refl
or_and_none false true = refl
or_and_none false false = refl

pub byte_split : (i : ℕ) (t : Touch) → is_touched_by (ram_byte i) t ≡ (is_read_of (word_address i) t || is_write_of (word_address i) t)
byte_split i (Read a) = or_none (a == word_address i)
byte_split i (Write a) = refl
byte_split i Input = refl
byte_split i (Levels w) = refl
byte_split i Expiry = refl

input_split : (t : Touch) → is_touched_by waiting_bytes t ≡ (is_input t || false)
input_split (Read a) = refl
input_split (Write a) = refl
input_split Input = refl
input_split (Levels w) = refl
input_split Expiry = refl

level_split : (l : ℕ) (t : Touch) → is_touched_by (pending_level l) t ≡ (asks l t || (l == timer_level && is_expiry t))
level_split l (Read a) = and_none (l == timer_level)
level_split l (Write a) = and_none (l == timer_level)
level_split l Input = and_none (l == timer_level)
level_split l (Levels w) = or_and_none _ (l == timer_level)
level_split l Expiry = and_true (l == timer_level)

none_any : (ts : List Touch) → list_any (λ t. false) ts ≡ false
none_any [] = refl
none_any (t ∷ ts) = none_any ts

-- by the touches alone
pub touched_parts : (ts : List Touch) (c : Cell) → is_touched ts c ≡ (is_read ts c || is_told_written ts c)
touched_parts ts (ram_byte i) = any_split (is_read_of (word_address i)) (is_write_of (word_address i)) (is_touched_by (ram_byte i)) (byte_split i) ts
touched_parts ts waiting_bytes = any_split is_input (λ t. false) (is_touched_by waiting_bytes) input_split ts ∙ ap (λ b. list_any is_input ts || b) (none_any ts)
touched_parts ts (pending_level l) =
    any_split (asks l) (λ t. l == timer_level && is_expiry t) (is_touched_by (pending_level l)) (level_split l) ts ∙ ap (λ b. list_any (asks l) ts || b) (and_any (l == timer_level) is_expiry ts)

-- what is told is written by it as it was by what was noted
pub told_written : (ts : List Touch) (c : Cell) → is_told_written (told ts) c ≡ is_written ts c
told_written ts (ram_byte i) = writes_told ts (word_address i)
told_written ts waiting_bytes = refl
told_written ts (pending_level l) = footprint_told.writes ts (pending_level l)

pub told_read : (ts : List Touch) (c : Cell) → is_read (told ts) c ≡ is_read ts c
told_read ts c = footprint_told.reads ts c

pub touched_told : (ts : List Touch) (c : Cell) → is_touched (told ts) c ≡ (is_read ts c || is_written ts c)
touched_told ts c = touched_parts (told ts) c ∙ ap₂ (λ a b. a || b) (told_read ts c) (told_written ts c)
