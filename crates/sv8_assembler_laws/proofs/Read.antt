-- What is read is written by the grammar.
use Rattle.std.proofs.Common.{◌≡◌, ℕ, Bool, cond, List, [], ◌∷◌, ◌++◌, map, Option, Some, None, codes, true, false, refl, sym, ap, subst, ◌∙◌, append_assoc}
use Rattle.std.specs.Str.{bytes_eq}
use Rattle.std.specs.Option.{option_or}
use Rattle.std.proofs.lemmas.Slice.Eq.{bytes_eq-Decides}
use Rattle.std.proofs.lemmas.List.{append-nil}
use Rattle.sv8_tokens.specs.declared.token.Percent.TheVariants as percent
use Rattle.sv8_tokens.specs.declared.token.Mark.TheVariants as mark
use Rattle.sv8_forms.specs.declared.mnemonic.Shape.{Shape}
use Rattle.sv8_statements.specs.declared.value.Expr.{Expr}
use Rattle.sv8_statements.specs.declared.value.Expr.TheVariants as expr
use Rattle.sv8_statements.specs.declared.value.Imm.{Imm}
use Rattle.sv8_statements.specs.declared.value.Imm.TheVariants as imm
use Rattle.sv8_statements.specs.declared.value.RegOrImm.{RegOrImm}
use Rattle.sv8_statements.specs.declared.value.RegOrImm.TheVariants as source
use Rattle.sv8_statements.specs.Address.{Address}
use Rattle.sv8_statements.specs.Address as address
use Rattle.sv8_statements.specs.Operand.{Operand}
use Rattle.sv8_statements.specs.Operand as operand
use Rattle.sv8_statements.specs.declared.statement.Statement.{Statement}
use Rattle.sv8_statements.specs.declared.statement.Stmt.{Stmt}
use Rattle.sv8_forms.specs.Mnemonics.{shape_named}
use Rattle.sv8_tokens.specs.Token.{Token, Word, Number, Percent, Mark, Quoted, Local}
use Rattle.sv8_statements.specs.Names.{is_reference}
use Rattle.sv8_statements.specs.declared.statement.Label.{Label}
use Rattle.sv8_statements.specs.declared.statement.Label.TheVariants as label
use Rattle.sv8_forms.specs.Forms.{form_of, annulled}
use Rattle.sv8_syntax.specs.Grammar.{blank, stated, stated_annulled, unlabelled, labelled, numbered, register, expression, in_parentheses, immediate, register_or_immediate, place, spelled, joined, IsStatement, IsLine, line}
use Rattle.sv8_statements.specs.Steps.{◌>>=◌}
use Rattle.sv8_syntax.specs.Reading.{parts_of, behind_annul, flagged, shaped, operands_of, statement_of, label_front, line_of}
use Rattle.sv8_tokens.specs.Reading.{ended, behind_paren, expr_front, parenthesized_front, imm_front, source_front, behind_immediate, address_front, closed, bracketed_operand, high_operand, plain_operand, marked_operand, operand_of}
use Rattle.sv8_statements.proofs.Steps.{bind_some, some_is, test_true}
use Rattle.sv8_assembler_laws.proofs.Joined.{joined-parts_of}

ended-read : {X : Type 0} (x y : X) (ts : List Token) → ended (x, ts) ≡ Some y → (x ≡ y) × (ts ≡ [])
ended-read x y [] e = (some_is x y e, refl)
ended-read x y (t ∷ ts) e = absurd cc

behind_paren-read : (ts rest : List Token) → behind_paren ts ≡ Some rest → ts ≡ Mark mark.CloseParen ∷ rest
behind_paren-read (Mark mark.CloseParen ∷ ts) rest e = ap (λ (us : List Token). Mark mark.CloseParen ∷ us) (some_is ts rest e)
behind_paren-read _ rest e = absurd cc

abbrev ExprIs : List Token → Expr × List Token → Type 0
ExprIs ts x = ts ≡ expression x.0 ++ x.1

expr_front-read : (ts : List Token) (x : Expr × List Token) → expr_front ts ≡ Some x → ExprIs ts x
unfolding expr_front
expr_front-read (Number n ∷ rest) x e = subst (ExprIs (Number n ∷ rest)) (some_is (expr.Number n, rest) x e) refl
expr_front-read (Mark mark.Minus ∷ Number n ∷ rest) x e = subst (ExprIs (Mark mark.Minus ∷ Number n ∷ rest)) (some_is (expr.Minus n, rest) x e) refl
expr_front-read (Word w ∷ Mark mark.Plus ∷ Number n ∷ rest) x e = subst (ExprIs (Word w ∷ Mark mark.Plus ∷ Number n ∷ rest)) (some_is (expr.Plus w n, rest) x e) refl
expr_front-read (Word w ∷ Mark mark.Minus ∷ Number n ∷ rest) x e = subst (ExprIs (Word w ∷ Mark mark.Minus ∷ Number n ∷ rest)) (some_is (expr.Less w n, rest) x e) refl
expr_front-read (Word w ∷ rest) x e = subst (ExprIs (Word w ∷ rest)) (some_is (expr.Name w, rest) x e) refl
expr_front-read _ x e = absurd cc

parenthesized-read : (ts : List Token) (x : Expr × List Token) → parenthesized_front ts ≡ Some x → ts ≡ in_parentheses (expression x.0) ++ x.1
unfolding parenthesized_front
parenthesized-read (Mark mark.OpenParen ∷ inner) x h =
    let a = bind_some (expr_front inner) (λ e. behind_paren e.1 >>= λ rest. Some (e.0, rest)) x h in
    let b = bind_some (behind_paren a.0.1) (λ rest. Some (a.0.0, rest)) x a.2 in
    let front : inner ≡ (expression a.0.0 ++ Mark mark.CloseParen ∷ []) ++ b.0 =
    expr_front-read inner a.0 a.1 ∙ ap (λ (us : List Token). expression a.0.0 ++ us) (behind_paren-read a.0.1 b.0 b.1) ∙ sym (append_assoc (expression a.0.0) (Mark mark.CloseParen ∷ []) b.0) in
    subst (λ (y : Expr × List Token). Mark mark.OpenParen ∷ inner ≡ in_parentheses (expression y.0) ++ y.1) (some_is (a.0.0, b.0) x b.2) (ap (λ (us : List Token). Mark mark.OpenParen ∷ us) front)
parenthesized-read _ x h = absurd cc

value-read : (ts : List Token) (x : Imm × List Token) → (expr_front ts >>= λ e. Some (imm.Value e.0, e.1)) ≡ Some x → ts ≡ immediate x.0 ++ x.1
value-read ts x h =
    let a = bind_some (expr_front ts) (λ e. Some (imm.Value e.0, e.1)) x h in
    subst (λ (y : Imm × List Token). ts ≡ immediate y.0 ++ y.1) (some_is (imm.Value a.0.0, a.0.1) x a.2) (expr_front-read ts a.0 a.1)

low-read : (ts : List Token) (x : Imm × List Token) → (parenthesized_front ts >>= λ e. Some (imm.Low e.0, e.1)) ≡ Some x → Percent percent.Low ∷ ts ≡ immediate x.0 ++ x.1
low-read ts x h =
    let a = bind_some (parenthesized_front ts) (λ e. Some (imm.Low e.0, e.1)) x h in
    subst (λ (y : Imm × List Token). Percent percent.Low ∷ ts ≡ immediate y.0 ++ y.1) (some_is (imm.Low a.0.0, a.0.1) x a.2) (ap (λ (us : List Token). Percent percent.Low ∷ us) (parenthesized-read ts a.0 a.1))

imm_front-read : (ts : List Token) (x : Imm × List Token) → imm_front ts ≡ Some x → ts ≡ immediate x.0 ++ x.1
unfolding imm_front
imm_front-read (Percent percent.Low ∷ ts) x h = low-read ts x h
imm_front-read ts x h = value-read ts x h

immediate-read : (ts : List Token) (x : RegOrImm × List Token) → (imm_front ts >>= λ i. Some (source.Immediate i.0, i.1)) ≡ Some x → ts ≡ register_or_immediate x.0 ++ x.1
immediate-read ts x h =
    let a = bind_some (imm_front ts) (λ i. Some (source.Immediate i.0, i.1)) x h in
    subst (λ (y : RegOrImm × List Token). ts ≡ register_or_immediate y.0 ++ y.1) (some_is (source.Immediate a.0.0, a.0.1) x a.2) (imm_front-read ts a.0 a.1)

source_front-read : (ts : List Token) (x : RegOrImm × List Token) → source_front ts ≡ Some x → ts ≡ register_or_immediate x.0 ++ x.1
unfolding source_front
source_front-read (Percent (percent.Register r) ∷ rest) x h = subst (λ (y : RegOrImm × List Token). Percent (percent.Register r) ∷ rest ≡ register_or_immediate y.0 ++ y.1) (some_is (source.Register r, rest) x h) refl
source_front-read ts x h = immediate-read ts x h

behind_immediate-read : (i : Imm) (ts : List Token) → immediate i ++ ts ≡ place (behind_immediate i ts).0 ++ (behind_immediate i ts).1
unfolding behind_immediate
behind_immediate-read i (Mark mark.Plus ∷ Percent (percent.Register r) ∷ rest) = sym (append_assoc (immediate i) (Mark mark.Plus ∷ register r) rest)
behind_immediate-read i _ = refl

abbrev PlaceIs : List Token → Address × List Token → Type 0
PlaceIs ts x = ts ≡ place x.0 ++ x.1

other-read : (ts : List Token) (x : Address × List Token) → (imm_front ts >>= λ i. Some (behind_immediate i.0 i.1)) ≡ Some x → PlaceIs ts x
other-read ts x h =
    let a = bind_some (imm_front ts) (λ i. Some (behind_immediate i.0 i.1)) x h in
    subst (PlaceIs ts) (some_is (behind_immediate a.0.0 a.0.1) x a.2) (imm_front-read ts a.0 a.1 ∙ behind_immediate-read a.0.0 a.0.1)

address_front-read : (ts : List Token) (x : Address × List Token) → address_front ts ≡ Some x → PlaceIs ts x
unfolding address_front
address_front-read (Percent (percent.Register r) ∷ Mark mark.Plus ∷ behind) x h =
    let a = bind_some (source_front behind) (λ c. Some (address.Sum r c.0, c.1)) x h in
    subst (PlaceIs (Percent (percent.Register r) ∷ Mark mark.Plus ∷ behind)) (some_is (address.Sum r a.0.0, a.0.1) x a.2) (ap (λ (us : List Token). Percent (percent.Register r) ∷ Mark mark.Plus ∷ us) (source_front-read behind a.0 a.1))
address_front-read (Percent (percent.Register r) ∷ Mark mark.Minus ∷ Number n ∷ rest) x h = subst (PlaceIs (Percent (percent.Register r) ∷ Mark mark.Minus ∷ Number n ∷ rest)) (some_is (address.Less r n, rest) x h) refl
address_front-read (Percent (percent.Register r) ∷ rest) x h = subst (PlaceIs (Percent (percent.Register r) ∷ rest)) (some_is (address.One (source.Register r), rest) x h) refl
address_front-read ts x h = other-read ts x h

closed-read : (a : Address) (ts us : List Token) (o : Operand) → us ≡ place a ++ ts → closed a ts ≡ Some o → Mark mark.OpenBracket ∷ us ≡ spelled o
unfolding closed
closed-read a (Mark mark.CloseBracket ∷ []) us o e h = ap (λ (ts : List Token). Mark mark.OpenBracket ∷ ts) e ∙ ap spelled (some_is (operand.Bracketed a) o h)
closed-read a (Mark mark.CloseBracket ∷ Number n ∷ []) us o e h = ap (λ (ts : List Token). Mark mark.OpenBracket ∷ ts) e ∙ ap spelled (some_is (operand.Alternate a n) o h)
closed-read a _ us o e h = absurd cc

bracketed-read : (ts : List Token) (o : Operand) → bracketed_operand ts ≡ Some o → Mark mark.OpenBracket ∷ ts ≡ spelled o
unfolding bracketed_operand
bracketed-read ts o h =
    let a = bind_some (address_front ts) (λ x. closed x.0 x.1) o h in
    closed-read a.0.0 a.0.1 ts o (address_front-read ts a.0 a.1) a.2

high-read : (ts : List Token) (o : Operand) → high_operand ts ≡ Some o → Percent percent.High ∷ ts ≡ spelled o
unfolding high_operand
high-read ts o h =
    let a = bind_some (parenthesized_front ts) (λ e. ended (operand.High e.0, e.1)) o h in
    let c = ended-read (operand.High a.0.0) o a.0.1 a.2 in
    let whole : ts ≡ in_parentheses (expression a.0.0) = parenthesized-read ts a.0 a.1 ∙ ap (λ (us : List Token). in_parentheses (expression a.0.0) ++ us) c.1 ∙ append-nil (in_parentheses (expression a.0.0)) in
    ap (λ (us : List Token). Percent percent.High ∷ us) whole ∙ ap spelled c.0

plain-read : (ts : List Token) (o : Operand) → plain_operand ts ≡ Some o → ts ≡ spelled o
unfolding plain_operand
plain-read ts o h =
    let a = bind_some (address_front ts) (λ x. ended (operand.Plain x.0, x.1)) o h in
    let c = ended-read (operand.Plain a.0.0) o a.0.1 a.2 in
    address_front-read ts a.0 a.1 ∙ ap (λ (us : List Token). place a.0.0 ++ us) c.1 ∙ append-nil (place a.0.0) ∙ ap spelled c.0

marked-read : (ts : List Token) (o : Operand) → marked_operand ts ≡ Some o → ts ≡ spelled o
unfolding marked_operand
marked-read (Mark mark.OpenBracket ∷ inner) o h = bracketed-read inner o h
marked-read (Percent percent.High ∷ inner) o h = high-read inner o h
marked-read (Percent (percent.State s) ∷ []) o h = ap spelled (some_is (operand.State s) o h)
marked-read (Quoted q ∷ []) o h = ap spelled (some_is (operand.Quoted q) o h)
marked-read _ o h = absurd cc

either-read : (ts : List Token) (marked : Option Operand) (o : Operand) → marked_operand ts ≡ marked → option_or marked (plain_operand ts) ≡ Some o → ts ≡ spelled o
either-read ts (Some m) o e h = marked-read ts o (e ∙ h)
either-read ts None o e h = plain-read ts o h

-- an operand that was read is spelled by those tokens
pub operand-read : (ts : List Token) (o : Operand) → operand_of ts ≡ Some o → ts ≡ spelled o
unfolding operand_of
operand-read ts o h = either-read ts (marked_operand ts) o refl h

operands-read : (ps : List (List Token)) (os : List Operand) → operands_of ps ≡ Some os → ps ≡ map spelled os
unfolding operands_of
operands-read [] os h = ap (λ (xs : List Operand). map spelled xs) (some_is [] os h)
operands-read (p ∷ ps) os h =
    let x = bind_some (operand_of p) (λ o. operands_of ps >>= λ rest. Some (o ∷ rest)) os h in
    let y = bind_some (operands_of ps) (λ rest. Some (x.0 ∷ rest)) os x.2 in
    ap (λ (us : List Token). us ∷ ps) (operand-read p x.0 x.1) ∙ ap (λ (qs : List (List Token)). spelled x.0 ∷ qs) (operands-read ps y.0 y.1) ∙ ap (λ (xs : List Operand). map spelled xs) (some_is (x.0 ∷ y.0) os y.2)

-- ---- lines

-- the operands of a statement, and that they are spelled by its tokens
shaped-read : (s : Shape) (ts : List Token) (b : Statement) → shaped s ts ≡ Some b → (os : List Operand) × (ts ≡ joined (map spelled os)) × (form_of s os ≡ Some b)
unfolding shaped
shaped-read s ts b h =
    let x = bind_some (operands_of (parts_of ts)) (form_of s) b h in
    (x.0, sym (joined-parts_of ts) ∙ ap joined (operands-read (parts_of ts) x.0 x.1), x.2)

behind_annul-read : (ts us : List Token) → behind_annul ts ≡ Some us → ts ≡ Mark mark.Comma ∷ Word (codes "a") ∷ us
unfolding behind_annul
behind_annul-read (Mark mark.Comma ∷ Word w ∷ ts) us h =
    let a = test_true (bytes_eq w (codes "a")) (Some ts) us h in
    let w_is : w ≡ codes "a" = (bytes_eq-Decides w (codes "a")).0 a.0 in
    rw (w_is, some_is ts us a.1) refl
behind_annul-read _ us h = absurd cc

stated-read : (name : List ℕ) (s : Shape) (ts : List Token) (b : Statement) → shape_named name ≡ Some s → shaped s ts ≡ Some b → IsStatement (Word name ∷ ts) (Some b)
stated-read name s ts b found h =
    let x = shaped-read s ts b h in
    subst (λ (us : List Token). IsStatement (Word name ∷ us) (Some b)) (sym x.1) (stated name s x.0 b found x.2)

annulled-read : (name : List ℕ) (s t : Shape) (ts us : List Token) (b : Statement) → shape_named name ≡ Some s → ts ≡ Mark mark.Comma ∷ Word (codes "a") ∷ us → annulled s ≡ Some t → shaped t us ≡ Some b → IsStatement (Word name ∷ ts) (Some b)
annulled-read name s t ts us b found e f h =
    let x = shaped-read t us b h in
    let whole : ts ≡ Mark mark.Comma ∷ Word (codes "a") ∷ joined (map spelled x.0) = e ∙ ap (λ (vs : List Token). Mark mark.Comma ∷ Word (codes "a") ∷ vs) x.1 in
    subst (λ (vs : List Token). IsStatement (Word name ∷ vs) (Some b)) (sym whole) (stated_annulled name s t x.0 b found f x.2)

flagged-read : (name : List ℕ) (s : Shape) (ts : List Token) (o : Option (List Token)) (x : Shape × List Token) (b : Statement) → shape_named name ≡ Some s → behind_annul ts ≡ o → flagged s ts o ≡ Some x → shaped x.0 x.1 ≡ Some b → IsStatement (Word name ∷ ts) (Some b)
unfolding flagged
flagged-read name s ts None x b found e f h =
    let same : (s, ts) ≡ x = some_is (s, ts) x f in
    stated-read name s ts b found (subst (λ (y : Shape × List Token). shaped y.0 y.1 ≡ Some b) (sym same) h)
flagged-read name s ts (Some us) x b found e f h =
    let a = bind_some (annulled s) (λ t. Some (t, us)) x f in
    let same = some_is (a.0, us) x a.2 in
    annulled-read name s a.0 ts us b found (behind_annul-read ts us e) a.1 (subst (λ (y : Shape × List Token). shaped y.0 y.1 ≡ Some b) (sym same) h)

pub statement-read : (ts : List Token) (b : Option Statement) → statement_of ts ≡ Some b → IsStatement ts b
unfolding statement_of
statement-read [] b h = subst (IsStatement []) (some_is None b h) blank
statement-read (Word name ∷ ts) b h =
    let s = bind_some (shape_named name) (λ s. flagged s ts (behind_annul ts) >>= λ x. shaped x.0 x.1 >>= λ c. Some (Some c)) b h in
    let x = bind_some (flagged s.0 ts (behind_annul ts)) (λ x. shaped x.0 x.1 >>= λ c. Some (Some c)) b s.2 in
    let y = bind_some (shaped x.0.0 x.0.1) (λ c. Some (Some c)) b x.2 in
    subst (IsStatement (Word name ∷ ts)) (some_is (Some y.0) b y.2) (flagged-read name s.0 ts (behind_annul ts) x.0 y.0 s.1 refl x.1 y.1)
statement-read _ b h = absurd cc

-- a line, by the label that its tokens begin with
front-line : (ts : List Token) (b : Option Statement) → IsStatement (label_front ts).1 b → IsLine ts (line (label_front ts).0 b)
unfolding label_front
front-line (Word name ∷ Mark mark.Colon ∷ ts) b d =
    let whole : List Token = Word name ∷ Mark mark.Colon ∷ ts in
    let front : Bool → Option Label × List Token = λ v. cond v (None, whole) (Some (label.Name name), ts) in
    let P : Bool → Type 0 = λ v. is_reference name ≡ v → IsStatement (front v).1 b → IsLine whole (line (front v).0 b) in
    let all : (v : Bool) → P v = λ v. elim v as P [ true ↦ λ e k. unlabelled whole b k | false ↦ λ e k. labelled name ts b e k ] in
    all (is_reference name) refl d
front-line (Local d ∷ ts) b k = numbered d ts b k
front-line ts b d = unlabelled ts b d

pub line-read : (ts : List Token) (s : Stmt) → line_of ts ≡ Some s → IsLine ts s
unfolding line_of
line-read ts s h =
    let x = bind_some (statement_of (label_front ts).1) (λ b. Some (line (label_front ts).0 b)) s h in
    subst (IsLine ts) (some_is (line (label_front ts).0 x.0) s x.2) (front-line ts x.0 (statement-read (label_front ts).1 x.0 x.1))
