-- The two passes over the lines.
use Rattle.std.specs.Prelude.{ℕ, ℤ, pos, ◌+◌, List, [], ◌∷◌, ◌++◌, Option, Some, None, Result, Ok, Err, nat_lt, is_some, if◌then◌else◌, IsOk}
use Rattle.sv8_statements.specs.declared.fault.LineFault.{LineFault}
use Rattle.sv8_statements.specs.declared.fault.LineFault.TheVariants.{UnknownName, DuplicateLabel, ImageTooLarge}
use Rattle.sv8_statements.specs.declared.statement.Label.{Label}
use Rattle.sv8_statements.specs.declared.statement.Label.TheVariants as label
use Rattle.sv8_statements.specs.declared.statement.Statement.{Statement}
use Rattle.sv8_statements.specs.declared.statement.Statement.TheVariants as statement
use Rattle.sv8_statements.specs.declared.statement.Stmt.{Stmt}
use Rattle.sv8_syntax.specs.Reading.{reading}
use Rattle.sv8_asm.specs.Names.{Names, no_names, defined, with_name, with_mark}
use Rattle.sv8_asm.specs.Size.{plain, size}
use Rattle.sv8_asm.specs.Code.{bytes}
use Rattle.sv8_source.specs.declared.fault.SourceFault.{SourceFault}
use Rattle.sv8_source.specs.Fault.{after_line}

-- a line with what it reads as, and the location before its statement
pub record Place : Type 0 where
  pub text : List ℕ
  pub stmt : Stmt
  pub at : ℕ

-- what the lines so far leave: themselves, their names with values, and the location
pub record Layout : Type 0 where
  pub places : List Place
  pub symbols : Names
  pub at : ℕ

-- no lines, at location 0
abbrev pub start : Layout
start = record { places = []; symbols = no_names; at = 0 }

-- the first fault, or what follows
abbrev pub on_ok : {A B : Type 0} → Result A LineFault → (A → Result B LineFault) → Result B LineFault
on_ok (Ok v) rest = rest v
on_ok (Err e) rest = Err e

-- a name gets its value, unless a line above, or this line's label, defines it too
abbrev pub define : List ℕ → ℤ → Names → Result Names LineFault
define name value symbols = if is_some (defined symbols.named name) then Err DuplicateLabel else Ok (with_name name value symbols)

-- a label stands for the location before its line's statement; any number of lines may have a local label
abbrev pub define_label : Option Label → ℕ → ℕ → Names → Result Names LineFault
define_label None n at symbols = Ok symbols
define_label (Some (label.Name name)) n at symbols = define name (pos at) symbols
define_label (Some (label.Local digit)) n at symbols = Ok (with_mark digit n at symbols)

-- a name gets a number, where it is one
abbrev pub define_number : List ℕ → Option ℤ → Names → Result Names LineFault
define_number name None symbols = Err UnknownName
define_number name (Some value) symbols = define name value symbols

-- `.equ` gives a name its number
abbrev pub define_equ : Option Statement → Names → Result Names LineFault
define_equ (Some (statement.Equ name value)) symbols = define_number name (plain value) symbols
define_equ s symbols = Ok symbols

-- the location behind n bytes, which may be the limit and not more
abbrev pub moved : ℕ → ℕ → ℕ → Result ℕ LineFault
moved limit at n = if nat_lt limit (at + n) then Err ImageTooLarge else Ok (at + n)

-- the names and the location after the statement of line n; its faults are looked for in this order
unfoldable pub admitted : ℕ → ℕ → ℕ → Stmt → Names → Result (Names × ℕ) LineFault
admitted limit n at s symbols =
    on_ok (define_label s.label n at symbols) (λ labelled.
    on_ok (define_equ s.statement labelled) (λ known.
    on_ok (size s at) (λ count.
    on_ok (moved limit at count) (λ next. Ok (known, next)))))

-- line n, with what it reads as
unfoldable pub with_stmt : ℕ → ℕ → List ℕ → Stmt → Layout → Result Layout LineFault
with_stmt limit n text s l =
    on_ok (admitted limit n l.at s l.symbols) (λ (symbols, next).
    Ok (record { places = l.places ++ record { text = text; stmt = s; at = l.at } ∷ []; symbols = symbols; at = next }))

-- line n, of text
unfoldable pub with_line : ℕ → ℕ → List ℕ → Layout → Result Layout LineFault
with_line limit n text l = on_ok (reading text) (λ s. with_stmt limit n text s l)

-- the layout pass: lines from number n on are added, up to the first fault
abbrev pub laid : ℕ → ℕ → List (List ℕ) → Layout → Result Layout SourceFault
laid limit n [] l = Ok l
laid limit n (text ∷ texts) l = after_line n (with_line limit n text l) (λ next. laid limit (n + 1) texts next)

-- the value pass, when all names are known: the bytes of each line from number n on, behind those of the lines
-- before, or the first fault
abbrev pub valued : Names → ℕ → List Place → List (List ℕ) → Result (List (List ℕ)) SourceFault
valued symbols n [] code = Ok code
valued symbols n (p ∷ ps) code = after_line n (bytes p.stmt n p.at symbols) (λ b. valued symbols (n + 1) ps (code ++ b ∷ []))

-- the statement has a size where it stands
abbrev pub HasSize : Place → Type 0
HasSize p = IsOk (size p.stmt p.at)
