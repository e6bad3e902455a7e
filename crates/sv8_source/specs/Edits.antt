-- An edit as the code makes it.
use Rattle.std.specs.Prelude.{◌≡◌, ℕ, ◌-◌, ◌≤◌, List, ◌∷◌, ◌++◌, take, drop, length, false, None, Ok}
use Rattle.sv8_syntax.specs.Reading.{reading}
use Rattle.sv8_asm.specs.Code.{bytes}
use Rattle.sv8_asm.specs.Names.{Names}
use Rattle.sv8_asm.specs.Size.{size}
use Rattle.sv8_source.specs.Image.{Rising, changed, words}
use Rattle.sv8_source.specs.Kept.{is_equ, Alike}
use Rattle.sv8_source.specs.Layout.{Place, moved}
use Rattle.sv8_source.specs.Listing.{shown_all}
use Rattle.sv8_source.specs.Text.{Assembly}

-- one line between the first ones, so many, and those from a number on, counted from 0; and the location behind all
abbrev pub with_line_between : ℕ → ℕ → Place → List ℕ → ℕ → Assembly → Assembly
with_line_between front back p b at a = record {
  layout = record { places = take front a.layout.places ++ p ∷ drop back a.layout.places; symbols = a.layout.symbols; at = at };
  code = take front a.code ++ b ∷ drop back a.code;
}

-- the lines rise, and each has its bytes
abbrev pub Sound : Assembly → Type 0
Sound a = Rising 0 (shown_all a) × (length a.code ≡ length a.layout.places)

-- a line with its bytes that may stand as line n in the place of another one
pub record Replaces (names : Names) (n : ℕ) (p q : Place) (b : List ℕ) : Type 0 where
  pub reads : reading q.text ≡ Ok q.stmt
  pub at : q.at ≡ p.at
  pub alike : Alike p.stmt q.stmt p.at
  pub coded : bytes q.stmt n q.at names ≡ Ok b

-- a line with its bytes that may stand as line n at a location behind all others, and the location behind it
pub record Continues (names : Names) (limit n at : ℕ) (q : Place) (b : List ℕ) (next : ℕ) : Type 0 where
  pub reads : reading q.text ≡ Ok q.stmt
  pub at_end : q.at ≡ at
  pub no_label : q.stmt.label ≡ None
  pub no_number : is_equ q.stmt.statement ≡ false
  pub count : ℕ
  pub sized : size q.stmt at ≡ Ok count
  pub fits : moved limit at count ≡ Ok next
  pub coded : bytes q.stmt n at names ≡ Ok b

-- the images of two assemblies are the same but for the words from one number up to another
pub record Within (old new : Assembly) (limit first end : ℕ) : Type 0 where
  pub up : first ≤ end
  pub most : end ≤ words limit
  pub same : changed (shown_all old) (shown_all new) first (end - first) ≡ changed (shown_all old) (shown_all new) 0 (words limit)
