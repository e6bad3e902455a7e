-- What is told of the steps that are most frequent.
use Rattle.std.proofs.Common.{◌≡◌, ◌≢◌, ℕ, List, [], ◌∷◌, ◌++◌, ◌==◌, Bool, true, false, not, ◌&&◌, ◌||◌, refl, sym, ◌∙◌, ap, ne_eqb}
use Rattle.std.specs.List.{list_any}
use Rattle.sv8_model.specs.declared.touch.Touch.{Touch}
use Rattle.sv8_model.specs.declared.touch.Touch.TheVariants.{Read, Write, Levels}
use Rattle.sv8_model.specs.Outside.{word_address}
use Rattle.sv8_model.specs.Footprint.{is_read_of, is_write_of, is_touch_of, reads_input}
use Rattle.sv8_model.specs.Cells.{Cell, ram_byte, waiting_bytes, pending_level, is_read, is_written}
use Rattle.sv8_touches.specs.Told.{told}
use Rattle.sv8_notes.specs.Touched.{is_touched, is_touched_by, is_told_written}
use Rattle.sv8_notes.specs.Steps.{Steps, Gains, are_of}
use Rattle.sv8_notes.proofs.Gaining.{or_none, any_append, are_of_append, gains_like, gains_then, read_append, written_append}
use Rattle.sv8_notes.proofs.Touching.{any_split, byte_split, told_read, told_written, touched_parts, touched_told}

pub told_nothing : told [] ≡ []
unfolding told
told_nothing = refl

-- a word that is fetched
pub told_fetch : (a : ℕ) → told (Read a ∷ []) ≡ Read a ∷ []
unfolding told
told_fetch a = refl

pub told_load : (a b : ℕ) → told (Read a ∷ Read b ∷ []) ≡ Read a ∷ Read b ∷ []
unfolding told
told_load a b = refl

-- a store of another word than that
pub told_store : (a b : ℕ) → a ≢ b → told (Read a ∷ Write b ∷ []) ≡ Read a ∷ Write b ∷ []
unfolding told
told_store a b apart = rw (ne_eqb a b apart)

-- ---- levels that are asked first

or_swap : (x y : Bool) → (x || y) ≡ (y || x)
or_swap true true = refl
or_swap true false = refl
or_swap false true = refl
or_swap false false = refl

module _ (levels : ℕ) (ts : List Touch) where
  reads : (c : Cell) → is_read (told (Levels levels ∷ ts)) c ≡ is_read (told ts ++ Levels levels ∷ []) c
  reads c =
      told_read (Levels levels ∷ ts) c
      ∙ read_append (Levels levels ∷ []) ts c
      ∙ or_swap (is_read (Levels levels ∷ []) c) (is_read ts c)
      ∙ ap (λ b. b || is_read (Levels levels ∷ []) c) (sym (told_read ts c))
      ∙ sym (read_append (told ts) (Levels levels ∷ []) c)

  none_written : (c : Cell) → is_written (Levels levels ∷ ts) c ≡ (is_written ts c || is_told_written (Levels levels ∷ []) c)
  none_written (ram_byte i) = sym (or_none _)
  none_written waiting_bytes = refl
  none_written (pending_level l) = both (l == 10) (is_written ts (pending_level l))
    where
      both : (t x : Bool) → x ≡ (x || (t && false))
      both true x = sym (or_none x)
      both false x = sym (or_none x)

  writes : (c : Cell) → is_told_written (told (Levels levels ∷ ts)) c ≡ is_told_written (told ts ++ Levels levels ∷ []) c
  writes c =
      told_written (Levels levels ∷ ts) c
      ∙ none_written c
      ∙ ap (λ b. b || is_told_written (Levels levels ∷ []) c) (sym (told_written ts c))
      ∙ sym (written_append (told ts) (Levels levels ∷ []) c)

  takes : reads_input (told (Levels levels ∷ ts)) ≡ reads_input (told ts ++ Levels levels ∷ [])
  takes = reads waiting_bytes

  behind : (ds : List Touch) (c : Cell) → are_of ds c ≡ are_of (ds ++ Levels levels ∷ []) c
  behind ds (ram_byte i) = sym (any_append (is_touch_of (word_address i)) ds (Levels levels ∷ []) ∙ or_none (list_any (is_touch_of (word_address i)) ds))
  behind ds waiting_bytes = refl
  behind ds (pending_level l) = refl

  pub gains_levels_first : (offset : ℕ) (ds : List Touch) (r s t : Steps) → Gains offset (told ts) ds r s → Gains offset (Levels levels ∷ []) (Levels levels ∷ []) s t
      → Gains offset (told (Levels levels ∷ ts)) ds r t
  gains_levels_first offset ds r s t p q =
      gains_like offset (told ts ++ Levels levels ∷ []) (told (Levels levels ∷ ts)) (ds ++ Levels levels ∷ []) ds r t (behind ds) reads writes takes
      (gains_then offset (told ts) (Levels levels ∷ []) ds (Levels levels ∷ []) r s t p q)

-- what is told touches the cells that what was noted touches
pub touches_told : (ts : List Touch) (c : Cell) → is_touched ts c ≡ is_touched (told ts) c
touches_told ts c = touched_parts ts c ∙ parts c ∙ sym (touched_told ts c)
  where
    over : (r w : Bool) → (r || w) ≡ (r || (w && not r))
    over true w = refl
    over false true = refl
    over false false = refl

    parts : (c : Cell) → (is_read ts c || is_told_written ts c) ≡ (is_read ts c || is_written ts c)
    parts (ram_byte i) = over (is_read ts (ram_byte i)) (list_any (is_write_of (word_address i)) ts)
    parts waiting_bytes = refl
    parts (pending_level l) = refl

-- ---- data of other steps

-- by the word of a byte, whatever is done to it
touch_parts : (ts : List Touch) (i : ℕ) → list_any (is_touch_of (word_address i)) ts ≡ is_touched ts (ram_byte i)
touch_parts ts i =
    any_split (is_read_of (word_address i)) (is_write_of (word_address i)) (is_touch_of (word_address i)) (λ t. refl) ts
    ∙ sym (any_split (is_read_of (word_address i)) (is_write_of (word_address i)) (is_touched_by (ram_byte i)) (byte_split i) ts)

-- what is told has the data of all that was noted
pub data_told : (ts ds : List Touch) → ((address : ℕ) → list_any (is_touch_of address) ds ≡ list_any (is_touch_of address) ts) → (c : Cell) → are_of ds c ≡ are_of (told ts) c
data_told ts ds all (ram_byte i) = all (word_address i) ∙ touch_parts ts i ∙ touches_told ts (ram_byte i) ∙ sym (touch_parts (told ts) i)
data_told ts ds all waiting_bytes = refl
data_told ts ds all (pending_level l) = refl

-- all that such a step touches is told, and is its data
pub gains_all : (offset : ℕ) (ts ds : List Touch) (r s : Steps) → ((address : ℕ) → list_any (is_touch_of address) ds ≡ list_any (is_touch_of address) ts)
    → Gains offset (told ts) (told ts) r s → Gains offset (told ts) ds r s
gains_all offset ts ds r s all p = gains_like offset (told ts) (told ts) (told ts) ds r s (data_told ts ds all) (λ c. refl) (λ c. refl) refl p

-- some of what it touches, but no word that it wrote, is noted before
pub gains_twice : (offset : ℕ) (ts ds es : List Touch) (r s t : Steps) → ((c : Cell) → (is_read ds c || is_read ts c) ≡ is_read ts c) → ((c : Cell) (b : Bool) → (is_told_written ds c || b) ≡ b)
    → ((c : Cell) → (are_of es c || are_of ts c) ≡ are_of ts c) → Gains offset ds es r s → Gains offset (told ts) (told ts) s t → Gains offset (told ts) (told ts) r t
gains_twice offset ts ds es r s t reads writes used p q =
    gains_like offset (ds ++ told ts) (told ts) (es ++ told ts) (told ts) r t uses reads' writes' (reads' waiting_bytes) (gains_then offset ds (told ts) es (told ts) r s t p q)
  where
    all : (c : Cell) → are_of ts c ≡ are_of (told ts) c
    all = data_told ts ts (λ address. refl)

    uses : (c : Cell) → are_of (told ts) c ≡ are_of (es ++ told ts) c
    uses c = sym (are_of_append es (told ts) c ∙ ap (λ b. are_of es c || b) (sym (all c)) ∙ used c ∙ all c)

    reads' : (c : Cell) → is_read (told ts) c ≡ is_read (ds ++ told ts) c
    reads' c = sym (read_append ds (told ts) c ∙ ap (λ b. is_read ds c || b) (told_read ts c) ∙ reads c ∙ sym (told_read ts c))

    writes' : (c : Cell) → is_told_written (told ts) c ≡ is_told_written (ds ++ told ts) c
    writes' c = sym (written_append ds (told ts) c ∙ writes c (is_told_written (told ts) c))
