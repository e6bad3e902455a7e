-- What a statement's names decide.
use Rattle.std.specs.Prelude.{◌≡◌, ℕ, true, List}
use Rattle.sv8_statements.specs.declared.statement.Stmt.{Stmt}
use Rattle.sv8_asm.specs.Names.{Names, get}
use Rattle.sv8_asm.specs.Uses.{uses, agree}
use Rattle.sv8_asm.specs.Code.{bytes as line_code}

-- where two tables, each asked in a line, agree on all names that a statement uses, it places the same bytes or has the same fault
abbrev pub UsedNamesDecide : Type 0
UsedNamesDecide =
    (s : Stmt) (at line other : ℕ) (names others : Names) → ((name : List ℕ) → uses s name ≡ true → get names name line ≡ get others name other)
    → line_code s line at names ≡ line_code s other at others

-- two tables that agree as `agree` finds it do so on all names that the statement uses
abbrev pub AgreeingNamesDecide : Type 0
AgreeingNamesDecide =
    (s : Stmt) (line other : ℕ) (names others : Names) → agree s names line others other ≡ true
    → ((name : List ℕ) → uses s name ≡ true → get names name line ≡ get others name other) × ((at : ℕ) → line_code s line at names ≡ line_code s other at others)
