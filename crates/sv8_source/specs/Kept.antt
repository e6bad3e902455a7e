-- What is kept of each line beside the listing, and shared by sources.
use Rattle.std.specs.Prelude.{◌≡◌, ℕ, List, map, Vec, Bool, true, false, Option, Some, None, IsOk}
use Rattle.std.specs.declared.rc.Rc.{Rc}
use Rattle.std.specs.declared.alloc.Global.{Global}
use Rattle.sv8_statements.specs.declared.statement.Statement.{Statement}
use Rattle.sv8_statements.specs.declared.statement.Statement.TheVariants as statement
use Rattle.sv8_statements.specs.declared.statement.Stmt.{Stmt}
use Rattle.sv8_asm.specs.Names.{Names, no_names}
use Rattle.sv8_asm.specs.Size.{size}

-- a line's text and what it reads as
pub record Reading : Type 0 where
  pub text : List ℕ
  pub stmt : Stmt

-- the table behind a handle; with no handle there are no names
abbrev pub table : Option (Rc Names Global) → Names
table None = no_names
table (Some names) = names.value

-- the bytes behind handles
abbrev pub code_bytes : List (Rc (Vec ℕ Global) Global) → List (List ℕ)
code_bytes code = map (λ c. c.value.items) code

-- a statement gives a name a number
abbrev pub is_equ : Option Statement → Bool
is_equ (Some (statement.Equ name value)) = true
is_equ s = false

-- a statement that at one location stands in the place of another and changes no name and no other location
pub record Alike (old new : Stmt) (at : ℕ) : Type 0 where
  pub label : new.label ≡ old.label
  pub no_number_before : is_equ old.statement ≡ false
  pub no_number : is_equ new.statement ≡ false
  pub moves : size new at ≡ size old at
  pub sized : IsOk (size new at)
