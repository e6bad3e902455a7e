-- Operands, read from left to right: those named front read the front of the tokens and give the rest, the others read all.
use Rattle.std.specs.Prelude.{List, [], ◌∷◌, Option, Some, None}
use Rattle.std.specs.Option.{option_or}
use Rattle.sv8_tokens.specs.declared.token.Percent.TheVariants as percent
use Rattle.sv8_tokens.specs.declared.token.Mark.TheVariants as mark
use Rattle.sv8_statements.specs.declared.value.Expr.{Expr}
use Rattle.sv8_statements.specs.declared.value.Expr.TheVariants as expr
use Rattle.sv8_statements.specs.declared.value.Imm.{Imm}
use Rattle.sv8_statements.specs.declared.value.Imm.TheVariants as imm
use Rattle.sv8_statements.specs.declared.value.RegOrImm.{RegOrImm}
use Rattle.sv8_statements.specs.declared.value.RegOrImm.TheVariants as source
use Rattle.sv8_statements.specs.Address.{Address}
use Rattle.sv8_statements.specs.Address as address
use Rattle.sv8_statements.specs.Operand.{Operand}
use Rattle.sv8_statements.specs.Operand as operand
use Rattle.sv8_statements.specs.Steps.{◌>>=◌}
use Rattle.sv8_tokens.specs.Token.{Token, Word, Number, Percent, Mark, Quoted}

-- what was read, if nothing is left
abbrev pub ended : {X : Type 0} → X × List Token → Option X
ended (x, []) = Some x
ended (x, t ∷ ts) = None

-- what stands behind a closing parenthesis
abbrev pub behind_paren : List Token → Option (List Token)
behind_paren (Mark mark.CloseParen ∷ rest) = Some rest
behind_paren _ = None

unfoldable pub expr_front : List Token → Option (Expr × List Token)
expr_front (Number n ∷ rest) = Some (expr.Number n, rest)
expr_front (Mark mark.Minus ∷ Number n ∷ rest) = Some (expr.Minus n, rest)
expr_front (Word w ∷ Mark mark.Plus ∷ Number n ∷ rest) = Some (expr.Plus w n, rest)
expr_front (Word w ∷ Mark mark.Minus ∷ Number n ∷ rest) = Some (expr.Less w n, rest)
expr_front (Word w ∷ rest) = Some (expr.Name w, rest)
expr_front _ = None

unfoldable pub parenthesized_front : List Token → Option (Expr × List Token)
parenthesized_front (Mark mark.OpenParen ∷ inner) = do
  e ← expr_front inner
  rest ← behind_paren e.1
  Some (e.0, rest)
parenthesized_front _ = None

-- the low bits of an expression in parentheses, and an expression
abbrev pub low_front : List Token → Option (Imm × List Token)
low_front ts = do
  e ← parenthesized_front ts
  Some (imm.Low e.0, e.1)

abbrev pub value_front : List Token → Option (Imm × List Token)
value_front ts = do
  e ← expr_front ts
  Some (imm.Value e.0, e.1)

unfoldable pub imm_front : List Token → Option (Imm × List Token)
imm_front (Percent percent.Low ∷ inner) = low_front inner
imm_front ts = value_front ts

unfoldable pub source_front : List Token → Option (RegOrImm × List Token)
source_front (Percent (percent.Register r) ∷ rest) = Some (source.Register r, rest)
source_front ts = do
  i ← imm_front ts
  Some (source.Immediate i.0, i.1)

-- an immediate value, and the register that is added to it, if one is
unfoldable pub behind_immediate : Imm → List Token → Address × List Token
behind_immediate i (Mark mark.Plus ∷ Percent (percent.Register r) ∷ rest) = (address.After i r, rest)
behind_immediate i rest = (address.One (source.Immediate i), rest)

unfoldable pub address_front : List Token → Option (Address × List Token)
address_front (Percent (percent.Register r) ∷ Mark mark.Plus ∷ behind) = do
  c ← source_front behind
  Some (address.Sum r c.0, c.1)
address_front (Percent (percent.Register r) ∷ Mark mark.Minus ∷ Number n ∷ rest) = Some (address.Less r n, rest)
address_front (Percent (percent.Register r) ∷ rest) = Some (address.One (source.Register r), rest)
address_front ts = do
  i ← imm_front ts
  Some (behind_immediate i.0 i.1)

-- what stands behind an address in brackets
unfoldable pub closed : Address → List Token → Option Operand
closed a (Mark mark.CloseBracket ∷ []) = Some (operand.Bracketed a)
closed a (Mark mark.CloseBracket ∷ Number n ∷ []) = Some (operand.Alternate a n)
closed a _ = None

unfoldable pub bracketed_operand : List Token → Option Operand
bracketed_operand ts = do
  a ← address_front ts
  closed a.0 a.1

unfoldable pub high_operand : List Token → Option Operand
high_operand ts = do
  e ← parenthesized_front ts
  ended (operand.High e.0, e.1)

unfoldable pub plain_operand : List Token → Option Operand
plain_operand ts = do
  a ← address_front ts
  ended (operand.Plain a.0, a.1)

-- an operand that its first token tells
unfoldable pub marked_operand : List Token → Option Operand
marked_operand (Mark mark.OpenBracket ∷ inner) = bracketed_operand inner
marked_operand (Percent percent.High ∷ inner) = high_operand inner
marked_operand (Percent (percent.State s) ∷ []) = Some (operand.State s)
marked_operand (Quoted q ∷ []) = Some (operand.Quoted q)
marked_operand _ = None

-- the operand that these tokens are
unfoldable pub operand_of : List Token → Option Operand
operand_of ts = option_or (marked_operand ts) (plain_operand ts)
