-- Tables of names.
use Rattle.std.specs.Prelude.{ℕ, List, [], ◌∷◌, Option, Some, None, if◌then◌else◌}
use Rattle.std.specs.Str.{bytes_eq}
use Rattle.sv8_statements.specs.declared.table.Entry.{Entry}

-- a name and what it stands for
pub record Row (V : Type 0) : Type 0 where
  pub name : List ℕ
  pub value : V

abbrev pub row : {V : Type 0} → List ℕ → V → Row V
row n v = record { name = n; value = v }

-- what the first row of that name has
abbrev pub look_up : {V : Type 0} → List (Row V) → List ℕ → Option V
look_up [] name = None
look_up (r ∷ rows) name = if bytes_eq r.name name then Some r.value else look_up rows name

-- an entry of the code, without where its name lies
abbrev pub view : {V : Type 0} → Entry V → Row V
view e = row e.name.now e.value
