-- What is written by the grammar is read again.
use Rattle.std.proofs.Common.{◌≡◌, false, ℕ, List, [], ◌∷◌, ◌++◌, map, Option, Some, None, refl, sym, ap, ◌∙◌, append_assoc}
use Rattle.std.proofs.lemmas.List.{append-nil}
use Rattle.sv8_tokens.specs.declared.token.Percent.TheVariants as percent
use Rattle.sv8_tokens.specs.declared.token.Mark.TheVariants as mark
use Rattle.sv8_statements.specs.declared.register.Register.{Register}
use Rattle.sv8_statements.specs.declared.value.Expr.{Expr}
use Rattle.sv8_statements.specs.declared.value.Expr.TheVariants as expr
use Rattle.sv8_statements.specs.declared.value.Imm.{Imm}
use Rattle.sv8_statements.specs.declared.value.Imm.TheVariants as imm
use Rattle.sv8_statements.specs.declared.value.RegOrImm.{RegOrImm}
use Rattle.sv8_statements.specs.declared.value.RegOrImm.TheVariants as source
use Rattle.sv8_statements.specs.Address.{Address}
use Rattle.sv8_statements.specs.Address as address
use Rattle.sv8_statements.specs.Operand.{Operand}
use Rattle.sv8_statements.specs.Operand as operand
use Rattle.sv8_statements.specs.declared.statement.Statement.{Statement}
use Rattle.sv8_statements.specs.declared.statement.Stmt.{Stmt}
use Rattle.sv8_statements.specs.Names.{is_reference}
use Rattle.sv8_statements.specs.declared.statement.Label.{Label}
use Rattle.sv8_statements.specs.declared.statement.Label.TheVariants as label
use Rattle.sv8_tokens.specs.Token.{Token, Word, Number, Percent, Mark, Local}
use Rattle.sv8_syntax.specs.Grammar.{blank, stated, stated_annulled, unlabelled, labelled, numbered, register, expression, in_parentheses, immediate, register_or_immediate, place, spelled, IsStatement, IsLine, line}
use Rattle.sv8_statements.specs.Steps.{◌>>=◌}
use Rattle.sv8_tokens.specs.Reading.{ended, closed, expr_front, parenthesized_front, imm_front, source_front, behind_immediate, address_front, bracketed_operand, high_operand, plain_operand, marked_operand, operand_of}
use Rattle.sv8_syntax.specs.Reading.{operands_of, shaped, behind_annul, flagged, statement_of, label_front, line_of}
use Rattle.sv8_assembler_laws.proofs.Joined.{HasNoComma, HasNoComma-append, HaveNoComma, AreParts, parts_none, parts_some, parts_of-joined, parts-no_annul, starts_with_label, statement-no_label}

-- ---- operands

-- what may follow an expression without being taken for a part of it
data Stops : List Token → Type 0 where
  stop_end : Stops []
  stop_paren : (ts : List Token) → Stops (Mark mark.CloseParen ∷ ts)
  stop_bracket : (ts : List Token) → Stops (Mark mark.CloseBracket ∷ ts)
  stop_plus : (r : Register) (ts : List Token) → Stops (Mark mark.Plus ∷ Percent (percent.Register r) ∷ ts)

expr_front-again : (e : Expr) (rest : List Token) → Stops rest → expr_front (expression e ++ rest) ≡ Some (e, rest)
unfolding expr_front
expr_front-again (expr.Number n) rest s = refl
expr_front-again (expr.Minus n) rest s = refl
expr_front-again (expr.Plus w n) rest s = refl
expr_front-again (expr.Less w n) rest s = refl
expr_front-again (expr.Name w) _ stop_end = refl
expr_front-again (expr.Name w) _ (stop_paren ts) = refl
expr_front-again (expr.Name w) _ (stop_bracket ts) = refl
expr_front-again (expr.Name w) _ (stop_plus r ts) = refl

parenthesized-again : (e : Expr) (rest : List Token) → parenthesized_front (in_parentheses (expression e) ++ rest) ≡ Some (e, rest)
unfolding expr_front parenthesized_front
parenthesized-again (expr.Number n) rest = refl
parenthesized-again (expr.Minus n) rest = refl
parenthesized-again (expr.Plus w n) rest = refl
parenthesized-again (expr.Less w n) rest = refl
parenthesized-again (expr.Name w) rest = refl

abbrev with_value : Option (Expr × List Token) → Option (Imm × List Token)
with_value o = o >>= λ e. Some (imm.Value e.0, e.1)

imm_front-again : (i : Imm) (rest : List Token) → Stops rest → imm_front (immediate i ++ rest) ≡ Some (i, rest)
unfolding imm_front
imm_front-again (imm.Low e) rest s = ap (λ (o : Option (Expr × List Token)). o >>= λ x. Some (imm.Low x.0, x.1)) (parenthesized-again e rest)
imm_front-again (imm.Value (expr.Number n)) rest s = ap with_value (expr_front-again (expr.Number n) rest s)
imm_front-again (imm.Value (expr.Minus n)) rest s = ap with_value (expr_front-again (expr.Minus n) rest s)
imm_front-again (imm.Value (expr.Plus w n)) rest s = ap with_value (expr_front-again (expr.Plus w n) rest s)
imm_front-again (imm.Value (expr.Less w n)) rest s = ap with_value (expr_front-again (expr.Less w n) rest s)
imm_front-again (imm.Value (expr.Name w)) rest s = ap with_value (expr_front-again (expr.Name w) rest s)

abbrev as_source : Option (Imm × List Token) → Option (RegOrImm × List Token)
as_source o = o >>= λ i. Some (source.Immediate i.0, i.1)

-- an immediate value does not begin with a register
no_register : (i : Imm) (rest : List Token) → source_front (immediate i ++ rest) ≡ as_source (imm_front (immediate i ++ rest))
unfolding source_front
no_register (imm.Low e) rest = refl
no_register (imm.Value (expr.Number n)) rest = refl
no_register (imm.Value (expr.Minus n)) rest = refl
no_register (imm.Value (expr.Plus w n)) rest = refl
no_register (imm.Value (expr.Less w n)) rest = refl
no_register (imm.Value (expr.Name w)) rest = refl

source_front-again : (c : RegOrImm) (rest : List Token) → Stops rest → source_front (register_or_immediate c ++ rest) ≡ Some (c, rest)
unfolding source_front
source_front-again (source.Register r) rest s = refl
source_front-again (source.Immediate i) rest s = no_register i rest ∙ ap as_source (imm_front-again i rest s)

-- what may follow an address
data Ends : List Token → Type 0 where
  end_all : Ends []
  end_bracket : (ts : List Token) → Ends (Mark mark.CloseBracket ∷ ts)

stops : (rest : List Token) → Ends rest → Stops rest
stops _ end_all = stop_end
stops _ (end_bracket ts) = stop_bracket ts

abbrev as_address : Option (Imm × List Token) → Option (Address × List Token)
as_address o = o >>= λ i. Some (behind_immediate i.0 i.1)

other_address : (i : Imm) (rest : List Token) → address_front (immediate i ++ rest) ≡ as_address (imm_front (immediate i ++ rest))
unfolding address_front
other_address (imm.Low e) rest = refl
other_address (imm.Value (expr.Number n)) rest = refl
other_address (imm.Value (expr.Minus n)) rest = refl
other_address (imm.Value (expr.Plus w n)) rest = refl
other_address (imm.Value (expr.Less w n)) rest = refl
other_address (imm.Value (expr.Name w)) rest = refl

abbrev found : {X : Type 0} → X → Option X
found x = Some x

alone : (i : Imm) (rest : List Token) → Ends rest → found (behind_immediate i rest) ≡ Some (address.One (source.Immediate i), rest)
unfolding behind_immediate
alone i _ end_all = refl
alone i _ (end_bracket ts) = refl

added : (i : Imm) (r : Register) (rest : List Token) → found (behind_immediate i (Mark mark.Plus ∷ Percent (percent.Register r) ∷ rest)) ≡ Some (address.After i r, rest)
unfolding behind_immediate
added i r rest = refl

address_front-again : (a : Address) (rest : List Token) → Ends rest → address_front (place a ++ rest) ≡ Some (a, rest)
unfolding address_front
address_front-again (address.One (source.Register r)) _ end_all = refl
address_front-again (address.One (source.Register r)) _ (end_bracket ts) = refl
address_front-again (address.One (source.Immediate i)) rest e = other_address i rest ∙ ap as_address (imm_front-again i rest (stops rest e)) ∙ alone i rest e
address_front-again (address.Sum r c) rest e = ap (λ (o : Option (RegOrImm × List Token)). o >>= λ x. Some (address.Sum r x.0, x.1)) (source_front-again c rest (stops rest e))
address_front-again (address.Less r n) rest e = refl
address_front-again (address.After i r) rest e =
    ap (λ (ts : List Token). address_front ts) (append_assoc (immediate i) (Mark mark.Plus ∷ register r) rest)
    ∙ other_address i (Mark mark.Plus ∷ Percent (percent.Register r) ∷ rest) ∙ ap as_address (imm_front-again i (Mark mark.Plus ∷ Percent (percent.Register r) ∷ rest) (stop_plus r rest)) ∙ added i r rest

bracketed-again : (a : Address) → bracketed_operand (place a ++ Mark mark.CloseBracket ∷ []) ≡ Some (operand.Bracketed a)
unfolding bracketed_operand closed
bracketed-again a = ap (λ (o : Option (Address × List Token)). o >>= λ x. closed x.0 x.1) (address_front-again a (Mark mark.CloseBracket ∷ []) (end_bracket []))

alternate-again : (a : Address) (n : ℕ) → bracketed_operand (place a ++ Mark mark.CloseBracket ∷ Number n ∷ []) ≡ Some (operand.Alternate a n)
unfolding bracketed_operand closed
alternate-again a n = ap (λ (o : Option (Address × List Token)). o >>= λ x. closed x.0 x.1) (address_front-again a (Mark mark.CloseBracket ∷ Number n ∷ []) (end_bracket (Number n ∷ [])))

high-again : (e : Expr) → high_operand (in_parentheses (expression e)) ≡ Some (operand.High e)
unfolding high_operand
high-again e =
    ap (λ (ts : List Token). parenthesized_front ts >>= λ x. ended (operand.High x.0, x.1)) (sym (append-nil (in_parentheses (expression e))))
    ∙ ap (λ (o : Option (Expr × List Token)). o >>= λ x. ended (operand.High x.0, x.1)) (parenthesized-again e [])

plain-again : (a : Address) → plain_operand (place a) ≡ Some (operand.Plain a)
unfolding plain_operand
plain-again a =
    ap (λ (ts : List Token). address_front ts >>= λ x. ended (operand.Plain x.0, x.1)) (sym (append-nil (place a)))
    ∙ ap (λ (o : Option (Address × List Token)). o >>= λ x. ended (operand.Plain x.0, x.1)) (address_front-again a [] end_all)

-- an immediate value's first token tells no other operand
not_marked-immediate : (i : Imm) (rest : List Token) → marked_operand (immediate i ++ rest) ≡ None
unfolding marked_operand
not_marked-immediate (imm.Low e) rest = refl
not_marked-immediate (imm.Value (expr.Number n)) rest = refl
not_marked-immediate (imm.Value (expr.Minus n)) rest = refl
not_marked-immediate (imm.Value (expr.Plus w n)) rest = refl
not_marked-immediate (imm.Value (expr.Less w n)) rest = refl
not_marked-immediate (imm.Value (expr.Name w)) rest = refl

not_marked : (a : Address) → marked_operand (place a) ≡ None
unfolding marked_operand
not_marked (address.One (source.Register r)) = refl
not_marked (address.One (source.Immediate i)) = ap (λ (ts : List Token). marked_operand ts) (sym (append-nil (immediate i))) ∙ not_marked-immediate i []
not_marked (address.Sum r c) = refl
not_marked (address.Less r n) = refl
not_marked (address.After i r) = not_marked-immediate i (Mark mark.Plus ∷ register r)

-- an operand that was spelled is read
pub operand-again : (o : Operand) → operand_of (spelled o) ≡ Some o
unfolding operand_of marked_operand
operand-again (operand.Plain a) = rw (not_marked a) (plain-again a)
operand-again (operand.Bracketed a) = rw (bracketed-again a) refl
operand-again (operand.Alternate a n) = rw (alternate-again a n) refl
operand-again (operand.High e) = rw (high-again e) refl
operand-again (operand.State s) = refl
operand-again (operand.Quoted q) = refl

operands-again : (os : List Operand) → operands_of (map spelled os) ≡ Some os
unfolding operands_of
operands-again [] = refl
operands-again (o ∷ os) = rw (operand-again o, operands-again os) refl

-- ---- no operand has a comma, nor is one empty

no_comma-expression : (e : Expr) → HasNoComma (expression e)
no_comma-expression (expr.Number n) = ((refl, refl), tt)
no_comma-expression (expr.Minus n) = ((refl, refl), ((refl, refl), tt))
no_comma-expression (expr.Name w) = ((refl, refl), tt)
no_comma-expression (expr.Plus w n) = ((refl, refl), ((refl, refl), ((refl, refl), tt)))
no_comma-expression (expr.Less w n) = ((refl, refl), ((refl, refl), ((refl, refl), tt)))

no_comma-parentheses : (e : Expr) → HasNoComma (in_parentheses (expression e))
no_comma-parentheses e = ((refl, refl), HasNoComma-append (expression e) (Mark mark.CloseParen ∷ []) (no_comma-expression e) ((refl, refl), tt))

no_comma-imm : (i : Imm) → HasNoComma (immediate i)
no_comma-imm (imm.Value e) = no_comma-expression e
no_comma-imm (imm.Low e) = ((refl, refl), no_comma-parentheses e)

no_comma-source : (c : RegOrImm) → HasNoComma (register_or_immediate c)
no_comma-source (source.Register r) = ((refl, refl), tt)
no_comma-source (source.Immediate i) = no_comma-imm i

no_comma-place : (a : Address) → HasNoComma (place a)
no_comma-place (address.One c) = no_comma-source c
no_comma-place (address.Sum r c) = ((refl, refl), ((refl, refl), no_comma-source c))
no_comma-place (address.Less r n) = ((refl, refl), ((refl, refl), ((refl, refl), tt)))
no_comma-place (address.After i r) = HasNoComma-append (immediate i) (Mark mark.Plus ∷ register r) (no_comma-imm i) ((refl, refl), ((refl, refl), tt))

no_comma-operand : (o : Operand) → HasNoComma (spelled o)
no_comma-operand (operand.Plain a) = no_comma-place a
no_comma-operand (operand.Bracketed a) = ((refl, refl), HasNoComma-append (place a) (Mark mark.CloseBracket ∷ []) (no_comma-place a) ((refl, refl), tt))
no_comma-operand (operand.Alternate a n) = ((refl, refl), HasNoComma-append (place a) (Mark mark.CloseBracket ∷ Number n ∷ []) (no_comma-place a) ((refl, refl), ((refl, refl), tt)))
no_comma-operand (operand.High e) = ((refl, refl), no_comma-parentheses e)
no_comma-operand (operand.State s) = ((refl, refl), tt)
no_comma-operand (operand.Quoted q) = ((refl, refl), tt)

no_comma-operands : (os : List Operand) → HaveNoComma (map spelled os)
no_comma-operands [] = tt
no_comma-operands (o ∷ os) = (no_comma-operand o, no_comma-operands os)

not_read : operand_of [] ≡ None
unfolding operand_of marked_operand plain_operand address_front imm_front expr_front
not_read = refl

some_operand : (o : Operand) → spelled o ≡ [] → ⊥
some_operand o h = let e : found o ≡ None = sym (operand-again o) ∙ ap (λ (ts : List Token). operand_of ts) h ∙ not_read in cc

parts_some_of : (ts : List Token) (os : List (List Token)) → (ts ≡ [] → ⊥) → HasNoComma ts → HaveNoComma os → AreParts (ts ∷ os)
parts_some_of [] os some h k = absurd (some refl)
parts_some_of (t ∷ ts) os some h k = parts_some t ts os h k

are_parts : (os : List Operand) → AreParts (map spelled os)
are_parts [] = parts_none
are_parts (o ∷ os) = parts_some_of (spelled o) (map spelled os) (some_operand o) (no_comma-operand o) (no_comma-operands os)

-- ---- lines

statement-again : (ts : List Token) (b : Option Statement) → IsStatement ts b → statement_of ts ≡ Some b
unfolding statement_of flagged shaped behind_annul
statement-again _ _ blank = refl
statement-again _ _ (stated name s os b row form) = rw (row, parts-no_annul (map spelled os) (are_parts os), parts_of-joined (map spelled os) (are_parts os), operands-again os, form) refl
statement-again _ _ (stated_annulled name s t os b row flag form) = rw (row, flag, parts_of-joined (map spelled os) (are_parts os), operands-again os, form) refl

no_label : (ts : List Token) → starts_with_label ts ≡ false → label_front ts ≡ (None, ts)
unfolding label_front
no_label (Word name ∷ Mark mark.Colon ∷ ts) e = absurd cc
no_label (Local d ∷ ts) e = absurd cc
no_label _ e = refl

statement-starts : (ts : List Token) (b : Option Statement) → IsStatement ts b → starts_with_label ts ≡ false
statement-starts _ _ blank = refl
statement-starts _ _ (stated name s os b row form) = statement-no_label name (map spelled os) (are_parts os)
statement-starts _ _ (stated_annulled name s t os b row flag form) = refl

-- a line's label, and its statement behind it
fronted : (ts us : List Token) (l : Option Label) (b : Option Statement) → label_front ts ≡ (l, us) → IsStatement us b → line_of ts ≡ Some (line l b)
unfolding line_of
fronted ts us l b front d = rw (front, statement-again us b d) refl

named-front : (name : List ℕ) (ts : List Token) → is_reference name ≡ false → label_front (Word name ∷ Mark mark.Colon ∷ ts) ≡ (Some (label.Name name), ts)
unfolding label_front
named-front name ts other = rw other refl

numbered-front : (d : ℕ) (ts : List Token) → label_front (Local d ∷ ts) ≡ (Some (label.Local d), ts)
unfolding label_front
numbered-front d ts = refl

pub line-again : (ts : List Token) (s : Stmt) → IsLine ts s → line_of ts ≡ Some s
line-again _ _ (unlabelled ts b d) = fronted ts ts None b (no_label ts (statement-starts ts b d)) d
line-again _ _ (labelled name ts b other d) = fronted _ ts (Some (label.Name name)) b (named-front name ts other) d
line-again _ _ (numbered d ts b k) = fronted _ ts (Some (label.Local d)) b (numbered-front d ts) k
