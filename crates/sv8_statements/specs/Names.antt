-- Names, and what a line that was read defines.
use Rattle.std.specs.Prelude.{◌≡◌, ℕ, ◌<◌, List, [], ◌∷◌, Bool, false, ◌==◌, ◌&&◌, ◌||◌, nat_le, IfSome}
use Rattle.sv8_statements.specs.declared.value.Expr.{Expr}
use Rattle.sv8_statements.specs.declared.value.Expr.TheVariants as expr
use Rattle.sv8_statements.specs.declared.statement.Label.{Label}
use Rattle.sv8_statements.specs.declared.statement.Label.TheVariants as label
use Rattle.sv8_statements.specs.declared.statement.Statement.{Statement}
use Rattle.sv8_statements.specs.declared.statement.Statement.TheVariants as statement
use Rattle.sv8_statements.specs.declared.statement.Stmt.{Stmt}

abbrev pub is_digit : ℕ → Bool
is_digit c = nat_le 48 c && nat_le c 57

-- a digit and f or b: the label in the lines behind, or in those up to this one
abbrev pub is_reference : List ℕ → Bool
is_reference (d ∷ side ∷ []) = is_digit d && (side == 102 || side == 98)
is_reference _ = false

-- a name that is no reference to a local label, or a digit
abbrev pub IsLabel : Label → Type 0
IsLabel (label.Name name) = is_reference name ≡ false
IsLabel (label.Local d) = d < 10

-- a number or its negative
abbrev pub IsConstant : Expr → Type 0
IsConstant (expr.Number n) = Unit {0}
IsConstant (expr.Minus n) = Unit {0}
IsConstant _ = ⊥

-- what .equ defines is a name and a constant
abbrev pub IsDefinition : Statement → Type 0
IsDefinition (statement.Equ name value) = (is_reference name ≡ false) × IsConstant value
IsDefinition _ = Unit {0}

abbrev pub Defines : Stmt → Type 0
Defines s = IfSome s.label IsLabel × IfSome s.statement IsDefinition
