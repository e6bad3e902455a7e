-- The lines, over their tokens.
use Rattle.std.specs.Prelude.{◌≡◌, ℕ, ◌≤◌, ◌<◌, List, [], ◌∷◌, ◌++◌, length, map, Bool, false, Option, Some, None, codes, ◌||◌, ◌&&◌, ◌==◌, nat_le}
use Rattle.sv8_statements.specs.declared.fault.LineFault.{LineFault}
use Rattle.sv8_statements.specs.declared.fault.LineFault.TheVariants.{LineTooLong, NotAscii, Syntax}
use Rattle.sv8_tokens.specs.declared.token.Percent.TheVariants as percent
use Rattle.sv8_tokens.specs.declared.token.Mark.TheVariants as mark
use Rattle.sv8_forms.specs.declared.mnemonic.Shape.{Shape}
use Rattle.sv8_statements.specs.declared.register.Register.{Register}
use Rattle.sv8_statements.specs.declared.value.Expr.{Expr}
use Rattle.sv8_statements.specs.declared.value.Expr.TheVariants as expr
use Rattle.sv8_statements.specs.declared.value.Imm.{Imm}
use Rattle.sv8_statements.specs.declared.value.Imm.TheVariants as imm
use Rattle.sv8_statements.specs.declared.value.RegOrImm.{RegOrImm}
use Rattle.sv8_statements.specs.declared.value.RegOrImm.TheVariants as source
use Rattle.sv8_statements.specs.Address.{Address}
use Rattle.sv8_statements.specs.Address as address
use Rattle.sv8_statements.specs.Operand.{Operand}
use Rattle.sv8_statements.specs.Operand as operand
use Rattle.sv8_statements.specs.declared.statement.Statement.{Statement}
use Rattle.sv8_statements.specs.declared.statement.Label.{Label}
use Rattle.sv8_statements.specs.declared.statement.Label.TheVariants as label
use Rattle.sv8_statements.specs.declared.statement.Stmt.{Stmt}
use Rattle.sv8_tokens.specs.Token.{Token, Word, Number, Percent, Mark, Quoted, Local}
use Rattle.sv8_tokens.specs.Spelling.{AllPass, IsCutInto}
use Rattle.sv8_statements.specs.Names.{is_reference}
use Rattle.sv8_forms.specs.Mnemonics.{shape_named}
use Rattle.sv8_forms.specs.Forms.{form_of, annulled}

-- ---- how each operand is spelled

abbrev pub register : Register → List Token
register r = Percent (percent.Register r) ∷ []

-- a number, - number, a name, name + number, name - number; a reference to a local label may stand for a name
abbrev pub expression : Expr → List Token
expression (expr.Number n) = Number n ∷ []
expression (expr.Minus n) = Mark mark.Minus ∷ Number n ∷ []
expression (expr.Name w) = Word w ∷ []
expression (expr.Plus w n) = Word w ∷ Mark mark.Plus ∷ Number n ∷ []
expression (expr.Less w n) = Word w ∷ Mark mark.Minus ∷ Number n ∷ []

abbrev pub in_parentheses : List Token → List Token
in_parentheses ts = Mark mark.OpenParen ∷ ts ++ Mark mark.CloseParen ∷ []

-- an expression, or %lo and one in parentheses
abbrev pub immediate : Imm → List Token
immediate (imm.Value e) = expression e
immediate (imm.Low e) = Percent percent.Low ∷ in_parentheses (expression e)

-- reg_or_imm
abbrev pub register_or_immediate : RegOrImm → List Token
register_or_immediate (source.Register r) = register r
register_or_immediate (source.Immediate i) = immediate i

-- reg_or_imm, reg + reg_or_imm, reg - number, imm + reg
abbrev pub place : Address → List Token
place (address.One c) = register_or_immediate c
place (address.Sum r c) = Percent (percent.Register r) ∷ Mark mark.Plus ∷ register_or_immediate c
place (address.Less r n) = Percent (percent.Register r) ∷ Mark mark.Minus ∷ Number n ∷ []
place (address.After i r) = immediate i ++ Mark mark.Plus ∷ register r

-- the tokens of an operand: no two operands have the same
abbrev pub spelled : Operand → List Token
spelled (operand.Plain a) = place a
spelled (operand.Bracketed a) = Mark mark.OpenBracket ∷ place a ++ Mark mark.CloseBracket ∷ []
spelled (operand.Alternate a n) = Mark mark.OpenBracket ∷ place a ++ Mark mark.CloseBracket ∷ Number n ∷ []
spelled (operand.High e) = Percent percent.High ∷ in_parentheses (expression e)
spelled (operand.State s) = Percent (percent.State s) ∷ []
spelled (operand.Quoted q) = Quoted q ∷ []

-- ---- lines

-- the operands, with a comma between each and the next
abbrev pub joined : List (List Token) → List Token
joined [] = []
joined (ts ∷ []) = ts
joined (ts ∷ us ∷ parts) = ts ++ Mark mark.Comma ∷ joined (us ∷ parts)

-- nothing, or a mnemonic, perhaps with ,a behind it, and its operands
pub data IsStatement : List Token → Option Statement → Type 0 where
  blank : IsStatement [] None
  stated : (name : List ℕ) (s : Shape) (os : List Operand) (b : Statement)
      → shape_named name ≡ Some s → form_of s os ≡ Some b → IsStatement (Word name ∷ joined (map spelled os)) (Some b)
  stated_annulled : (name : List ℕ) (s t : Shape) (os : List Operand) (b : Statement)
      → shape_named name ≡ Some s → annulled s ≡ Some t → form_of t os ≡ Some b
      → IsStatement (Word name ∷ Mark mark.Comma ∷ Word (codes "a") ∷ joined (map spelled os)) (Some b)

abbrev pub line : Option Label → Option Statement → Stmt
line l b = record { label = l; statement = b }

-- [label:] [statement], where a label is a name or a digit
pub data IsLine : List Token → Stmt → Type 0 where
  unlabelled : (ts : List Token) (b : Option Statement) → IsStatement ts b → IsLine ts (line None b)
  labelled : (name : List ℕ) (ts : List Token) (b : Option Statement) → is_reference name ≡ false → IsStatement ts b → IsLine (Word name ∷ Mark mark.Colon ∷ ts) (line (Some (label.Name name)) b)
  numbered : (d : ℕ) (ts : List Token) (b : Option Statement) → IsStatement ts b → IsLine (Local d ∷ ts) (line (Some (label.Local d)) b)

-- ---- whole lines

-- a tab, or a byte that is printed
abbrev pub is_text_byte : ℕ → Bool
is_text_byte c = c == 9 || (nat_le 32 c && nat_le c 126)

-- the text is a line, and this is its statement
pub record ReadsAs (text : List ℕ) (s : Stmt) : Type 0 where
  pub short : length text ≤ 255
  pub ascii : AllPass is_text_byte text
  pub tokens : List Token
  pub cut : IsCutInto text tokens
  pub parsed : IsLine tokens s

-- Why a text is no line: the least fault that there is.
abbrev pub IsFault : List ℕ → LineFault → Type 0
IsFault text LineTooLong = 255 < length text
IsFault text NotAscii = (length text ≤ 255) × (AllPass is_text_byte text → ⊥)
IsFault text Syntax = (length text ≤ 255) × AllPass is_text_byte text × ((s : Stmt) → ReadsAs text s → ⊥)
IsFault text _ = ⊥
