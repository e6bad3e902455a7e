-- What the names of a source are.
use Rattle.std.specs.Prelude.{◌≡◌, ℕ, ℤ, List, Some, Ok}
use Rattle.std.specs.List.{Contains}
use Rattle.std.specs.declared.cmp.Ordering.TheVariants.{Less}
use Rattle.sv8_statements.specs.declared.statement.Label.TheVariants as label
use Rattle.sv8_statements.specs.declared.statement.Statement.TheVariants as statement
use Rattle.sv8_statements.specs.declared.statement.Stmt.{Stmt}
use Rattle.sv8_statements.specs.declared.value.Expr.{Expr}
use Rattle.sv8_asm.specs.Size.{plain}
use Rattle.sv8_source.specs.Layout.{Layout}
use Rattle.sv8_assembler_laws.specs.LayoutLaws.{ReadsAs, location}
use Rattle.sv8_source.specs.Names.{Named, label_named, number_named, compare, Pairwise, names}
use Rattle.sv8_source.specs.Text.{Text, Assembly, assembled}

-- a name is the label of a line and stands for its location, or a line gives it a number
pub data IsDefined (s : Text) (l : Layout) (n : Named) : Type 0 where
  of_label : (i : ℕ) (stmt : Stmt) (name : List ℕ) → ReadsAs s i stmt → stmt.label ≡ Some (label.Name name) → n ≡ label_named name (location l i) → IsDefined s l n
  of_number : (i : ℕ) (stmt : Stmt) (name : List ℕ) (value : Expr) (v : ℤ) → ReadsAs s i stmt → stmt.statement ≡ Some (statement.Equ name value) → plain value ≡ Some v → n ≡ number_named name v
      → IsDefined s l n

-- a list has each label with the location of its line, each name of `.equ` with its number, and no other name; each one comes before all behind it
pub record AreNames (s : Text) (l : Layout) (ns : List Named) : Type 0 where
  pub labels : (i : ℕ) (stmt : Stmt) (name : List ℕ) → ReadsAs s i stmt → stmt.label ≡ Some (label.Name name) → Contains ns (label_named name (location l i))
  pub numbers : (i : ℕ) (stmt : Stmt) (name : List ℕ) (value : Expr) → ReadsAs s i stmt → stmt.statement ≡ Some (statement.Equ name value)
      → (v : ℤ) × (plain value ≡ Some v) × Contains ns (number_named name v)
  pub others : (n : Named) → Contains ns n → IsDefined s l n
  pub rise : Pairwise (λ m n. compare m n ≡ Less) ns

abbrev pub NamesAreTold : Type 0
NamesAreTold = (s : Text) (a : Assembly) → assembled s ≡ Ok a → AreNames s a.layout (names s)
