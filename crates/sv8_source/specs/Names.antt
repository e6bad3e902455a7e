-- The names that a source defines, in the order of their values.
use Rattle.std.specs.Prelude.{◌≡◌, ℕ, ℤ, List, [], ◌∷◌, ◌++◌, Option, Some, None, Result, Ok, Err, false, if◌then◌else◌}
use Rattle.std.specs.List.{AllByRecursion, flat_map}
use Rattle.std.specs.Option.{option_to_list}
use Rattle.std.specs.Cmp.Lexicographic.{slice_cmp}
use Rattle.std.specs.declared.cmp.Ordering.{Ordering}
use Rattle.std.specs.Ordering.{nat_cmp, ordering_then, is_gt, is_eq}
use Rattle.sv8_model.specs.Words.{word_of_number}
use Rattle.sv8_statements.specs.declared.statement.Label.{Label}
use Rattle.sv8_statements.specs.declared.statement.Label.TheVariants as label
use Rattle.sv8_statements.specs.declared.statement.Statement.{Statement}
use Rattle.sv8_statements.specs.declared.statement.Statement.TheVariants as statement
use Rattle.sv8_asm.specs.Size.{plain}
use Rattle.sv8_source.specs.declared.fault.SourceFault.{SourceFault}
use Rattle.sv8_source.specs.declared.names.NameKind.{NameKind}
use Rattle.sv8_source.specs.declared.names.NameKind.TheVariants as kind
use Rattle.sv8_source.specs.Layout.{Place}
use Rattle.sv8_source.specs.Text.{Text, Assembly, assembled}

-- a name with the word that it stands for, and what defines it
pub record Named : Type 0 where
  pub value : ℕ
  pub kind : NameKind
  pub name : List ℕ

-- ---- of one line

-- a label that stands for a location
abbrev pub label_named : List ℕ → ℕ → Named
label_named name at = record { value = at; kind = kind.Label; name = name }

-- a name that stands for a number, modulo 2^32
abbrev pub number_named : List ℕ → ℤ → Named
number_named name value = record { value = word_of_number value; kind = kind.Equ; name = name }

-- a label stands for the location before its line's statement; a digit is no name
abbrev pub label_name : Option Label → ℕ → Option Named
label_name None at = None
label_name (Some (label.Name name)) at = Some (label_named name at)
label_name (Some (label.Local digit)) at = None

abbrev pub number_name : List ℕ → Option ℤ → Option Named
number_name name None = None
number_name name (Some value) = Some (number_named name value)

-- the name of `.equ` stands for its number
abbrev pub equ_name : Option Statement → Option Named
equ_name (Some (statement.Equ name value)) = number_name name (plain value)
equ_name s = None

abbrev pub line_names : Place → List Named
line_names p = option_to_list (label_name p.stmt.label p.at) ++ option_to_list (equ_name p.stmt.statement)

-- the names of lines, in the order of the lines
abbrev pub defined_names : List Place → List Named
defined_names places = flat_map line_names places

-- ---- their order

-- by value, then byte by byte; a name comes before each other one that it begins
abbrev pub compare : Named → Named → Ordering
compare m n = ordering_then (nat_cmp m.value n.value) (slice_cmp nat_cmp m.name n.name)

-- a name among others that are in order, behind those that it comes after
abbrev pub with_name_in_order : Named → List Named → List Named
with_name_in_order new [] = new ∷ []
with_name_in_order new (n ∷ names) = if is_gt (compare new n) then n ∷ with_name_in_order new names else new ∷ n ∷ names

abbrev pub in_order : List Named → List Named
in_order [] = []
in_order (n ∷ names) = with_name_in_order n (in_order names)

-- a relation holds of each element and each one behind it
abbrev pub Pairwise : {X : Type 0} → (X → X → Type 0) → List X → Type 0
Pairwise R [] = Unit {0}
Pairwise R (x ∷ xs) = AllByRecursion (R x) xs × Pairwise R xs

-- no two names have the same place in the order
abbrev pub HasNoTies : List Named → Type 0
HasNoTies names = Pairwise (λ m n. is_eq (compare m n) ≡ false) names

-- ---- of a source

-- the names of what the passes make; none where they refuse
abbrev pub names_of : Result Assembly SourceFault → List Named
names_of (Ok a) = in_order (defined_names a.layout.places)
names_of (Err e) = []

-- the names that a source that assembles defines, in their order
unfoldable pub names : Text → List Named
names s = names_of (assembled s)
