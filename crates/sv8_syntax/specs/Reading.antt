-- Reading from left to right, as functions of lists: the operands of a line, statements, lines.
use Rattle.std.specs.Prelude.{ℕ, List, [], ◌∷◌, length, Bool, true, false, Option, Some, None, Result, Ok, Err, codes, nat_lt, if◌then◌else◌}
use Rattle.std.specs.List.{list_all}
use Rattle.std.specs.Str.{bytes_eq}
use Rattle.sv8_statements.specs.declared.fault.LineFault.{LineFault}
use Rattle.sv8_statements.specs.declared.fault.LineFault.TheVariants.{LineTooLong, NotAscii, Syntax}
use Rattle.sv8_tokens.specs.declared.token.Mark.TheVariants as mark
use Rattle.sv8_forms.specs.declared.mnemonic.Shape.{Shape}
use Rattle.sv8_statements.specs.Operand.{Operand}
use Rattle.sv8_statements.specs.declared.statement.Statement.{Statement}
use Rattle.sv8_statements.specs.declared.statement.Label.{Label}
use Rattle.sv8_statements.specs.declared.statement.Label.TheVariants as label
use Rattle.sv8_statements.specs.declared.statement.Stmt.{Stmt}
use Rattle.sv8_statements.specs.Names.{is_reference}
use Rattle.sv8_tokens.specs.Reading.{operand_of}
use Rattle.sv8_tokens.specs.Token.{Token, Word, Mark, Local}
use Rattle.sv8_forms.specs.Mnemonics.{shape_named}
use Rattle.sv8_forms.specs.Forms.{form_of, annulled}
use Rattle.sv8_syntax.specs.Grammar.{line, is_text_byte}
use Rattle.sv8_statements.specs.Steps.{◌>>=◌}
use Rattle.sv8_tokens.specs.Lexing.{tokens_of}

-- each part is an operand
unfoldable pub operands_of : List (List Token) → Option (List Operand)
operands_of [] = Some []
operands_of (ts ∷ rest) = do
  o ← operand_of ts
  os ← operands_of rest
  Some (o ∷ os)

-- ---- lines

-- a token in front of the first part
abbrev pub put_first : Token → List (List Token) → List (List Token)
put_first t [] = (t ∷ []) ∷ []
put_first t (ts ∷ parts) = (t ∷ ts) ∷ parts

abbrev pub is_comma : Token → Bool
is_comma (Mark mark.Comma) = true
is_comma _ = false

-- the parts between commas, at least one
unfoldable pub parts : List Token → List (List Token)
parts [] = [] ∷ []
parts (t ∷ ts) = if is_comma t then [] ∷ parts ts else put_first t (parts ts)

-- the same, but none of no tokens
unfoldable pub parts_of : List Token → List (List Token)
parts_of [] = []
parts_of (t ∷ ts) = parts (t ∷ ts)

-- the statement of a shape with the operands that these tokens are
unfoldable pub shaped : Shape → List Token → Option Statement
shaped s ts = do
  os ← operands_of (parts_of ts)
  form_of s os

-- the tokens behind ,a
unfoldable pub behind_annul : List Token → Option (List Token)
behind_annul (Mark mark.Comma ∷ Word w ∷ rest) = if bytes_eq w (codes "a") then Some rest else None
behind_annul _ = None

-- a shape, made the one that annuls where the tokens begin with ,a, and the tokens of the operands
unfoldable pub flagged : Shape → List Token → Option (List Token) → Option (Shape × List Token)
flagged s ts (Some rest) = do
  t ← annulled s
  Some (t, rest)
flagged s ts None = Some (s, ts)

unfoldable pub statement_of : List Token → Option (Option Statement)
statement_of [] = Some None
statement_of (Word name ∷ ts) = do
  s ← shape_named name
  x ← flagged s ts (behind_annul ts)
  b ← shaped x.0 x.1
  Some (Some b)
statement_of _ = None

-- the label that the tokens begin with, if any, and those behind it
unfoldable pub label_front : List Token → Option Label × List Token
label_front (Word name ∷ Mark mark.Colon ∷ ts) = if is_reference name then (None, Word name ∷ Mark mark.Colon ∷ ts) else (Some (label.Name name), ts)
label_front (Local d ∷ ts) = (Some (label.Local d), ts)
label_front ts = (None, ts)

unfoldable pub line_of : List Token → Option Stmt
line_of ts = do
  b ← statement_of (label_front ts).1
  Some (line (label_front ts).0 b)

-- Syntax, where nothing was read
abbrev pub or_syntax : Option Stmt → Result Stmt LineFault
or_syntax (Some s) = Ok s
or_syntax None = Err Syntax

-- What a text is read as, or its least fault. The grammar says what it is to be; a law joins the two.
unfoldable pub reading : List ℕ → Result Stmt LineFault
reading text =
    if nat_lt 255 (length text) then Err LineTooLong
    else (if list_all is_text_byte text then or_syntax (tokens_of text >>= line_of)
    else Err NotAscii)
