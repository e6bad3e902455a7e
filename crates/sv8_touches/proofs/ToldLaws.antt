-- What is told, and what was noted.
use Rattle.std.proofs.Common.{◌≡◌, refl, sym, ap, ◌∙◌, ℕ, ◌==◌, Bool, true, false, cond, not, ◌&&◌, ◌||◌, List, [], ◌∷◌, bit_or}
use Rattle.std.specs.List.{filter, list_any}
use Rattle.std.proofs.lemmas.Bool.{eqb-true}
use Rattle.std.proofs.lemmas.List.Folds.{list_any-append}
use Rattle.std.proofs.lemmas.Map.Views.{any-filter_same}
use Rattle.sv8_model.specs.declared.touch.Touch.{Touch}
use Rattle.sv8_model.specs.declared.touch.Touch.TheVariants as note
use Rattle.sv8_model.specs.Words.{bit}
use Rattle.sv8_model.specs.Levels.{timer_level}
use Rattle.sv8_model.specs.Outside.{word_address}
use Rattle.sv8_model.specs.Footprint.{is_read_of, is_write_of, asks, is_input, is_expiry, reads_word, reads_input, reads_level, expires}
use Rattle.sv8_model.specs.Cells.{Cell, ram_byte, waiting_bytes, pending_level, is_read, is_written}
use Rattle.sv8_touches.specs.Laws.{FootprintIsTold, WritesAreUnread}
use Rattle.sv8_touches.specs.Told.{is_told, levels_in, levels_note, told}
use Rattle.sv8_model.proofs.Bits.{bit-or, bit-zero}

or-false : (b : Bool) → (b || false) ≡ b
or-false true = refl
or-false false = refl

and-swap : (a b : Bool) → (a && b) ≡ (b && a)
and-swap true true = refl
and-swap true false = refl
and-swap false true = refl
and-swap false false = refl

-- what a test finds among what is told: what it finds among the notes, as far as they are told as they stand, and in the note of levels
found : (test : Touch → Bool) (stands : Bool) (notes : List Touch) → ((n : Touch) → test n ≡ true → is_told notes n ≡ stands)
    → list_any test (told notes) ≡ ((stands && list_any test notes) || list_any test (levels_note (levels_in notes)))
unfolding told
found test stands notes h =
    list_any-append test (filter (is_told notes) notes) (levels_note (levels_in notes))
    ∙ ap (λ b. b || list_any test (levels_note (levels_in notes))) (any-filter_same test (is_told notes) stands h notes)

-- a test that no note of levels passes finds nothing in one
not_in_levels : (test : Touch → Bool) (word : ℕ) → test (note.Levels word) ≡ false → list_any test (levels_note word) ≡ false
not_in_levels test word h = elim (word == 0) as (λ b. list_any test (cond b [] (note.Levels word ∷ [])) ≡ false) [
  | true ↦ refl
  | false ↦ rw h refl
]

-- the same, where what is told does not change
found_same : (test : Touch → Bool) (notes : List Touch) → ((n : Touch) → test n ≡ true → is_told notes n ≡ true) → ((word : ℕ) → test (note.Levels word) ≡ false)
    → list_any test (told notes) ≡ list_any test notes
found_same test notes h k =
    found test true notes h ∙ ap (λ b. list_any test notes || b) (not_in_levels test (levels_in notes) (k (levels_in notes))) ∙ or-false (list_any test notes)

read_stands : (notes : List Touch) (address : ℕ) (n : Touch) → is_read_of address n ≡ true → is_told notes n ≡ true
read_stands notes address (note.Read other) h = refl
read_stands notes address (note.Write other) h = cc
read_stands notes address note.Input h = refl
read_stands notes address (note.Levels word) h = cc
read_stands notes address note.Expiry h = refl

reads_told : (notes : List Touch) (address : ℕ) → reads_word (told notes) address ≡ reads_word notes address
reads_told notes address = found_same (is_read_of address) notes (read_stands notes address) (λ word. refl)

write_stands : (notes : List Touch) (address : ℕ) (n : Touch) → is_write_of address n ≡ true → is_told notes n ≡ not (reads_word notes address)
write_stands notes address (note.Read other) h = cc
write_stands notes address (note.Write other) h = ap (λ a. not (reads_word notes a)) (eqb-true other address h)
write_stands notes address note.Input h = cc
write_stands notes address (note.Levels word) h = cc
write_stands notes address note.Expiry h = cc

pub writes_told : WritesAreUnread
writes_told notes address =
    found (is_write_of address) (not (reads_word notes address)) notes (write_stands notes address)
    ∙ ap (λ b. (not (reads_word notes address) && list_any (is_write_of address) notes) || b) (not_in_levels (is_write_of address) (levels_in notes) refl)
    ∙ or-false (not (reads_word notes address) && list_any (is_write_of address) notes) ∙ and-swap (not (reads_word notes address)) (list_any (is_write_of address) notes)

level_falls : (notes : List Touch) (l : ℕ) (n : Touch) → asks l n ≡ true → is_told notes n ≡ false
level_falls notes l (note.Read other) h = cc
level_falls notes l (note.Write other) h = cc
level_falls notes l note.Input h = cc
level_falls notes l (note.Levels word) h = refl
level_falls notes l note.Expiry h = cc

-- a level is in the note of levels where it is in their word
level_in_note : (l word : ℕ) → list_any (asks l) (levels_note word) ≡ bit word l
level_in_note l word = go (word == 0) refl
  where
    go : (b : Bool) → (word == 0) ≡ b → list_any (asks l) (cond b [] (note.Levels word ∷ [])) ≡ bit word l
    go true e = sym (ap (λ w. bit w l) (eqb-true word 0 e) ∙ bit-zero l)
    go false e = or-false (bit word l)

-- no levels more
none_more : (l : ℕ) (notes : List Touch) → bit (bit_or 0 (levels_in notes)) l ≡ bit (levels_in notes) l
none_more l notes = bit-or 0 (levels_in notes) l ∙ ap (λ b. b || bit (levels_in notes) l) (bit-zero l)

-- a level is in the word of all levels where some note asks it
level_in_word : (l : ℕ) (notes : List Touch) → bit (levels_in notes) l ≡ reads_level notes l
level_in_word l [] = bit-zero l
level_in_word l (note.Read other ∷ notes) = none_more l notes ∙ level_in_word l notes
level_in_word l (note.Write other ∷ notes) = none_more l notes ∙ level_in_word l notes
level_in_word l (note.Input ∷ notes) = none_more l notes ∙ level_in_word l notes
level_in_word l (note.Levels word ∷ notes) = bit-or word (levels_in notes) l ∙ ap (λ b. bit word l || b) (level_in_word l notes)
level_in_word l (note.Expiry ∷ notes) = none_more l notes ∙ level_in_word l notes

levels_told : (notes : List Touch) (l : ℕ) → reads_level (told notes) l ≡ reads_level notes l
levels_told notes l = found (asks l) false notes (level_falls notes l) ∙ level_in_note l (levels_in notes) ∙ level_in_word l notes

input_stands : (notes : List Touch) (n : Touch) → is_input n ≡ true → is_told notes n ≡ true
input_stands notes (note.Read other) h = refl
input_stands notes (note.Write other) h = cc
input_stands notes note.Input h = refl
input_stands notes (note.Levels word) h = cc
input_stands notes note.Expiry h = refl

input_told : (notes : List Touch) → reads_input (told notes) ≡ reads_input notes
input_told notes = found_same is_input notes (input_stands notes) (λ word. refl)

expiry_stands : (notes : List Touch) (n : Touch) → is_expiry n ≡ true → is_told notes n ≡ true
expiry_stands notes (note.Read other) h = refl
expiry_stands notes (note.Write other) h = cc
expiry_stands notes note.Input h = refl
expiry_stands notes (note.Levels word) h = cc
expiry_stands notes note.Expiry h = refl

expiry_told : (notes : List Touch) → expires (told notes) ≡ expires notes
expiry_told notes = found_same is_expiry notes (expiry_stands notes) (λ word. refl)

twice : (a b c : Bool) → (a && not b) ≡ c → (c && not b) ≡ (a && not b)
twice true true c h = sym (ap (λ x. x && false) h)
twice true false c h = sym (ap (λ x. x && true) h)
twice false b c h = sym (ap (λ x. x && not b) h)

read_told : (ts : List Touch) (c : Cell) → is_read (told ts) c ≡ is_read ts c
read_told ts (ram_byte i) = reads_told ts (word_address i)
read_told ts waiting_bytes = input_told ts
read_told ts (pending_level l) = levels_told ts l

written_told : (ts : List Touch) (c : Cell) → is_written (told ts) c ≡ is_written ts c
written_told ts (ram_byte i) =
    let a = word_address i in
    ap (λ b. list_any (is_write_of a) (told ts) && not b) (reads_told ts a)
    ∙ twice (list_any (is_write_of a) ts) (reads_word ts a) (list_any (is_write_of a) (told ts)) (sym (writes_told ts a))
written_told ts waiting_bytes = refl
written_told ts (pending_level l) = ap (λ b. l == timer_level && b) (expiry_told ts)

pub footprint_told : FootprintIsTold
footprint_told = record { reads = read_told; writes = written_told }
