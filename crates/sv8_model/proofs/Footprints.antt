-- What one touch adds to a footprint.
use Rattle.std.proofs.Common.{◌≡◌, ℕ, ◌==◌, Bool, true, false, List, ◌∷◌, refl, ◌∙◌, ap}
use Rattle.std.specs.Prelude.{not, ◌&&◌, ◌||◌}
use Rattle.std.specs.List.{list_any}
use Rattle.std.proofs.Math.Bool.{and-true, and-false}
use Rattle.std.proofs.lemmas.Bool.{true≢false}
use Rattle.sv8_model.specs.declared.touch.Touch.{Touch}
use Rattle.sv8_model.specs.declared.touch.Touch.TheVariants.{Read, Write, Input, Levels}
use Rattle.sv8_model.specs.Outside.{word_address}
use Rattle.sv8_model.specs.Levels.{timer_level}
use Rattle.sv8_model.specs.Footprint.{is_read_of, is_write_of, is_input, asks, is_expiry}
use Rattle.sv8_model.specs.Cells.{Cell, ram_byte, waiting_bytes, pending_level, is_read, is_written}

-- a touch reads a cell
abbrev pub hits : Touch → Cell → Bool
hits t (ram_byte i) = is_read_of (word_address i) t
hits t waiting_bytes = is_input t
hits t (pending_level l) = asks l t

-- a touch writes a cell
abbrev pub covers : Touch → Cell → Bool
covers t (ram_byte i) = is_write_of (word_address i) t
covers t waiting_bytes = false
covers t (pending_level l) = l == timer_level && is_expiry t

-- some touch writes a cell
abbrev pub is_covered : List Touch → Cell → Bool
is_covered ts (ram_byte i) = list_any (is_write_of (word_address i)) ts
is_covered ts waiting_bytes = false
is_covered ts (pending_level l) = l == timer_level && list_any is_expiry ts

pub first_false : (a b : Bool) → (a || b) ≡ false → a ≡ false
first_false false b h = refl
first_false true b h = h

pub rest_false : (a b : Bool) → (a || b) ≡ false → b ≡ false
rest_false false b h = h
rest_false true b h = absurd (true≢false h)

pub true_first : (a b : Bool) → a ≡ true → (a || b) ≡ true
true_first a b h = ap (λ x. x || b) h

split_and : (a b c : Bool) → (a && (b || c)) ≡ ((a && b) || (a && c))
split_and true b c = refl
split_and false b c = refl

pub is_read-more : (t : Touch) (ts : List Touch) (c : Cell) → is_read (t ∷ ts) c ≡ (hits t c || is_read ts c)
is_read-more t ts (ram_byte i) = refl
is_read-more t ts waiting_bytes = refl
is_read-more t ts (pending_level l) = refl

pub is_covered-more : (t : Touch) (ts : List Touch) (c : Cell) → is_covered (t ∷ ts) c ≡ (covers t c || is_covered ts c)
is_covered-more t ts (ram_byte i) = refl
is_covered-more t ts waiting_bytes = refl
is_covered-more t ts (pending_level l) = split_and (l == timer_level) (is_expiry t) (list_any is_expiry ts)

-- of a cell that is not read, it is written where some touch writes it
pub unread_covered : (ts : List Touch) (c : Cell) → is_read ts c ≡ false → is_written ts c ≡ is_covered ts c
unread_covered ts (ram_byte i) h = ap (λ b. list_any (is_write_of (word_address i)) ts && not b) h ∙ and-true (list_any (is_write_of (word_address i)) ts)
unread_covered ts waiting_bytes h = refl
unread_covered ts (pending_level l) h = refl

-- touches that write nothing
pub read_covers : (a : ℕ) (c : Cell) → covers (Read a) c ≡ false
read_covers a (ram_byte i) = refl
read_covers a waiting_bytes = refl
read_covers a (pending_level l) = and-false (l == timer_level)

pub input_covers : (c : Cell) → covers Input c ≡ false
input_covers (ram_byte i) = refl
input_covers waiting_bytes = refl
input_covers (pending_level l) = and-false (l == timer_level)

pub levels_cover : (w : ℕ) (c : Cell) → covers (Levels w) c ≡ false
levels_cover w (ram_byte i) = refl
levels_cover w waiting_bytes = refl
levels_cover w (pending_level l) = and-false (l == timer_level)

-- a write of a word writes no level
pub write_keeps_levels : (a l : ℕ) → covers (Write a) (pending_level l) ≡ false
write_keeps_levels a l = and-false (l == timer_level)
