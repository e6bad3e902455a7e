-- The names of a source and its local labels, with what they stand for.
use Rattle.std.specs.Prelude.{ℕ, ℤ, pos, ◌-◌, ◌==◌, List, [], ◌∷◌, ◌++◌, nat_le, nat_lt, Option, Some, None, slice_index_or, slice_set, replicate, if◌then◌else◌}
use Rattle.std.specs.Str.{bytes_eq}
use Rattle.sv8_statements.specs.Names.{is_reference}

-- a line that has a local label, and its location
pub record Mark : Type 0 where
  pub line : ℕ
  pub location : ℕ

pub record Names : Type 0 where
  -- names with their values, in the order of their definitions
  pub named : List (List ℕ × ℤ)
  -- for each digit the lines that have it as their label, in order
  pub marks : List (List Mark)

-- none
abbrev pub no_names : Names
no_names = record { named = []; marks = replicate 10 [] }

-- ---- names

-- the value of a name, byte by byte the same; none where it is not defined
abbrev pub defined : List (List ℕ × ℤ) → List ℕ → Option ℤ
defined [] name = None
defined (n ∷ named) name = if bytes_eq n.0 name then Some n.1 else defined named name

-- one more name
abbrev pub with_name : List ℕ → ℤ → Names → Names
with_name name value names = record names { named = names.named ++ (name, value) ∷ [] }

-- ---- local labels

-- the lines that have a digit
abbrev pub marks_of : ℕ → Names → List Mark
marks_of d names = slice_index_or names.marks d []

abbrev pub mark : ℕ → ℕ → Mark
mark line location = record { line = line; location = location }

-- one more line that has it
abbrev pub with_mark : ℕ → ℕ → ℕ → Names → Names
with_mark d line location names = record names { marks = slice_set names.marks d (marks_of d names ++ mark line location ∷ []) }

-- the location of the last of these lines up to and with a line, or what was found before them
unfoldable pub last_of : Option ℤ → ℕ → List Mark → Option ℤ
last_of found line [] = found
last_of found line (m ∷ marks) = last_of (if nat_le m.line line then Some (pos m.location) else found) line marks

-- the location of the first of these lines behind a line
unfoldable pub first_behind : ℕ → List Mark → Option ℤ
first_behind line [] = None
first_behind line (m ∷ marks) = if nat_lt line m.line then Some (pos m.location) else first_behind line marks

-- ---- both

-- a digit and b, or a digit and f
pub data Reference : Type 0 where
  backward : ℕ → Reference
  forward : ℕ → Reference

abbrev pub reference_to : ℕ → ℕ → Reference
reference_to d side = if side == 98 then backward d else forward d

-- the reference to a local label that a text is, as lines spell it; no name is one, since none begins with a digit
abbrev pub reference_of : List ℕ → Option Reference
reference_of (d ∷ side ∷ []) = if is_reference (d ∷ side ∷ []) then Some (reference_to (d - 48) side) else None
reference_of text = None

abbrev pub get_reference : Option Reference → Names → List ℕ → ℕ → Option ℤ
get_reference None names text line = defined names.named text
get_reference (Some (backward d)) names text line = last_of None line (marks_of d names)
get_reference (Some (forward d)) names text line = first_behind line (marks_of d names)

-- what a name, or a reference to a local label, stands for in a line
unfoldable pub get : Names → List ℕ → ℕ → Option ℤ
get names text line = get_reference (reference_of text) names text line
