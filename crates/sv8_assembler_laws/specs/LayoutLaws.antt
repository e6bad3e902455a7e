-- What the layout pass leaves: where lines stand, what their names stand for, and that nothing is placed at the limit or above it.
use Rattle.std.specs.Prelude.{◌≡◌, ℕ, zero, suc, ℤ, pos, ◌+◌, ◌<◌, ◌≤◌, ◌==◌, Bool, true, false, List, [], ◌∷◌, Option, Some, None, Result, Ok, Err}
use Rattle.std.specs.List.{list_any}
use Rattle.sv8_statements.specs.declared.fault.LineFault.{LineFault}
use Rattle.sv8_statements.specs.declared.statement.Label.{Label}
use Rattle.sv8_statements.specs.declared.statement.Label.TheVariants as label
use Rattle.sv8_statements.specs.declared.statement.Statement.TheVariants as statement
use Rattle.sv8_statements.specs.declared.statement.Stmt.{Stmt}
use Rattle.sv8_statements.specs.declared.value.Expr.{Expr}
use Rattle.sv8_syntax.specs.Reading.{reading}
use Rattle.sv8_asm.specs.Names.{defined, get, reference_of, forward, backward}
use Rattle.sv8_asm.specs.Size.{plain, size}
use Rattle.sv8_source.specs.Layout.{Layout, Place, start, laid}
use Rattle.sv8_source.specs.Image.{covers}
use Rattle.sv8_source.specs.Listing.{listing, numbered}
use Rattle.sv8_source.specs.Text.{Text}

-- line i of a source, from 1 on, reads as a statement
abbrev pub ReadsAs : Text → ℕ → Stmt → Type 0
ReadsAs s i stmt = (text : List ℕ) × (numbered s.lines i ≡ Some text) × (reading text ≡ Ok stmt)

-- ---- locations

-- the location of a place, counted from 0, and behind the last one the end
abbrev pub location_in : List Place → ℕ → ℕ → ℕ
location_in [] end i = end
location_in (p ∷ ps) end zero = p.at
location_in (p ∷ ps) end (suc i) = location_in ps end i

-- the location of line i, from 1 on, and behind the last line that of the end
abbrev pub location : Layout → ℕ → ℕ
location l zero = 0
location l (suc i) = location_in l.places l.at i

-- a line reads as a statement, and moves the location by its size there
pub record Moves (text : List ℕ) (at behind : ℕ) : Type 0 where
  pub stmt : Stmt
  pub read : reading text ≡ Ok stmt
  pub count : ℕ
  pub sized : size stmt at ≡ Ok count
  pub moved : behind ≡ at + count

-- the first line stands at 0, each other one behind the one before it, and none above the limit
pub record AreLocated (s : Text) (l : Layout) : Type 0 where
  pub first : location l 1 ≡ 0
  pub next : (i : ℕ) (text : List ℕ) → numbered s.lines i ≡ Some text → Moves text (location l i) (location l (i + 1))
  pub within : (i : ℕ) → location l i ≤ s.limit

abbrev pub LocationsFollow : Type 0
LocationsFollow = (s : Text) (l : Layout) → laid s.limit 1 s.lines start ≡ Ok l → AreLocated s l

-- ---- names

-- a name is the label of a line and stands for its location, or a line gives it a number
pub data StandsFor (s : Text) (l : Layout) (name : List ℕ) (v : ℤ) : Type 0 where
  of_label : (i : ℕ) (stmt : Stmt) → ReadsAs s i stmt → stmt.label ≡ Some (label.Name name) → v ≡ pos (location l i) → StandsFor s l name v
  of_number : (i : ℕ) (stmt : Stmt) (value : Expr) → ReadsAs s i stmt → stmt.statement ≡ Some (statement.Equ name value) → plain value ≡ Some v → StandsFor s l name v

-- a label stands for the location of its line, the name of `.equ` for its number, and no other name for anything
pub record NamesStand (s : Text) (l : Layout) : Type 0 where
  pub labels : (i : ℕ) (stmt : Stmt) (name : List ℕ) → ReadsAs s i stmt → stmt.label ≡ Some (label.Name name) → defined l.symbols.named name ≡ Some (pos (location l i))
  pub numbers : (i : ℕ) (stmt : Stmt) (name : List ℕ) (value : Expr) → ReadsAs s i stmt → stmt.statement ≡ Some (statement.Equ name value)
      → (v : ℤ) × (plain value ≡ Some v) × (defined l.symbols.named name ≡ Some v)
  pub others : (name : List ℕ) (v : ℤ) → defined l.symbols.named name ≡ Some v → StandsFor s l name v

abbrev pub NamesAreDefined : Type 0
NamesAreDefined = (s : Text) (l : Layout) → laid s.limit 1 s.lines start ≡ Ok l → NamesStand s l

-- ---- local labels

-- a line has a digit as its label
abbrev pub is_local : ℕ → Option Label → Bool
is_local d (Some (label.Local e)) = e == d
is_local d l = false

abbrev pub reads_local : ℕ → Result Stmt LineFault → Bool
reads_local d (Ok stmt) = is_local d stmt.label
reads_local d (Err e) = false

abbrev pub text_has : ℕ → Option (List ℕ) → Bool
text_has d None = false
text_has d (Some text) = reads_local d (reading text)

-- line i of a source has it
abbrev pub has_local : Text → ℕ → ℕ → Bool
has_local s d i = text_has d (numbered s.lines i)

-- the location of the first line behind line n that has a digit, none where there is no such line
abbrev pub IsFirstBehind : Text → Layout → ℕ → ℕ → Option ℤ → Type 0
IsFirstBehind s l d n None = (m : ℕ) → n < m → has_local s d m ≡ false
IsFirstBehind s l d n (Some v) = (m : ℕ) × (n < m) × (has_local s d m ≡ true) × (v ≡ pos (location l m)) × ((k : ℕ) → n < k → k < m → has_local s d k ≡ false)

-- the location of the last line up to and with line n that has a digit, none where there is no such line
abbrev pub IsLastUpTo : Text → Layout → ℕ → ℕ → Option ℤ → Type 0
IsLastUpTo s l d n None = (m : ℕ) → m ≤ n → has_local s d m ≡ false
IsLastUpTo s l d n (Some v) = (m : ℕ) × (m ≤ n) × (has_local s d m ≡ true) × (v ≡ pos (location l m)) × ((k : ℕ) → m < k → k ≤ n → has_local s d k ≡ false)

-- a reference in line n to a local label stands for the nearest line with that digit: forward of those behind line n, backward of line n and those before it
pub record Nearest (s : Text) (l : Layout) (text : List ℕ) (d n : ℕ) : Type 0 where
  pub ahead : reference_of text ≡ Some (forward d) → IsFirstBehind s l d n (get l.symbols text n)
  pub back : reference_of text ≡ Some (backward d) → IsLastUpTo s l d n (get l.symbols text n)

abbrev pub NearestLabelsCount : Type 0
NearestLabelsCount = (s : Text) (l : Layout) (text : List ℕ) (d n : ℕ) → laid s.limit 1 s.lines start ≡ Ok l → Nearest s l text d n

-- ---- the limit

-- no line of a source places a byte at its limit or above it
abbrev pub NothingBeyond : Type 0
NothingBeyond = (s : Text) (a : ℕ) → s.limit ≤ a → list_any (λ x. covers x a) (listing s) ≡ false
