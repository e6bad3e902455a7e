-- What a line that was read defines is a name of its own, or a digit.
use Rattle.std.proofs.Common.{◌≡◌, ℕ, ◌-◌, ◌<◌, Bool, true, false, cond, leb, List, [], ◌∷◌, Option, Some, None, refl, subst, arith}
use Rattle.std.specs.Prelude.{IfSome, IfOk, Result, Ok, Err}
use Rattle.std.proofs.lemmas.Bool.{leb-true}
use Rattle.sv8_model.specs.declared.refused.Refused.{Refused}
use Rattle.sv8_statements.specs.declared.fault.LineFault.{LineFault}
use Rattle.sv8_forms.specs.declared.mnemonic.Directive.{Directive}
use Rattle.sv8_forms.specs.declared.mnemonic.Directive.TheVariants as directive
use Rattle.sv8_forms.specs.declared.mnemonic.Shape.{Shape}
use Rattle.sv8_statements.specs.declared.value.Expr.{Expr}
use Rattle.sv8_statements.specs.declared.value.Expr.TheVariants as expr
use Rattle.sv8_statements.specs.declared.statement.Motion.{Motion}
use Rattle.sv8_statements.specs.declared.statement.Width.{Width}
use Rattle.sv8_statements.specs.declared.statement.Statement.{Statement}
use Rattle.sv8_statements.specs.declared.statement.Statement.TheVariants as statement
use Rattle.sv8_statements.specs.declared.statement.Stmt.{Stmt}
use Rattle.sv8_statements.specs.Operand.{Operand}
use Rattle.sv8_tokens.specs.declared.token.Mark.TheVariants as mark
use Rattle.sv8_statements.specs.declared.statement.Label.{Label}
use Rattle.sv8_statements.specs.declared.statement.Label.TheVariants as label
use Rattle.sv8_tokens.specs.Token.{Token, Word, Mark, Local}
use Rattle.sv8_statements.specs.Names.{is_digit, is_reference}
use Rattle.sv8_tokens.specs.Spelling.{Spells, label_text, IsCutInto, cut_token}
use Rattle.sv8_statements.specs.Steps.{◌>>=◌}
use Rattle.sv8_forms.specs.Taking.{register_in, expr_in, number_in, text_in, name_of, name_in, is_signed, signed_in, exprs_in}
use Rattle.sv8_forms.specs.Forms.{instruction_of, set_of, motion_of, data_of, ascii_of, equ_of, directive_of, directive_in, directive_or_instruction, form_of}
use Rattle.sv8_statements.specs.Names.{IsLabel, IsConstant, IsDefinition, Defines}
use Rattle.sv8_syntax.specs.Grammar.{line}
use Rattle.sv8_forms.specs.Mnemonics.{shape_named}
use Rattle.sv8_statements.specs.Outcome.{Gives}
use Rattle.sv8_syntax.specs.Reading.{operands_of, parts_of, shaped, behind_annul, flagged, statement_of, label_front, line_of}
use Rattle.sv8_statements.proofs.Steps.{bind_some, some_is, test_true}
use Rattle.sv8_tokens.proofs.Words.{and_true}

-- ---- .equ

name-defined : (e : Expr) (w : List ℕ) → name_of e ≡ Some w → is_reference w ≡ false
unfolding name_of
name-defined (expr.Name v) w h =
    let P : Bool → Type 0 = λ b. is_reference v ≡ b → cond b None (Some v) ≡ Some w → is_reference w ≡ false in
    let all : (b : Bool) → P b = λ b. elim b as P [ true ↦ λ e k. absurd cc | false ↦ λ e k. subst (λ (u : List ℕ). is_reference u ≡ false) (some_is v w k) e ] in
    all (is_reference v) refl h
name-defined _ w h = absurd cc

signed-constant : (e : Expr) → is_signed e ≡ true → IsConstant e
unfolding is_signed
signed-constant (expr.Number n) h = tt
signed-constant (expr.Minus n) h = tt
signed-constant _ h = absurd cc

equ-defines : (os : List Operand) (b : Statement) → equ_of os ≡ Some b → IsDefinition b
unfolding equ_of name_in signed_in
equ-defines (a ∷ c ∷ []) b h =
    let x = bind_some (signed_in c) (λ value. name_in a >>= λ w. Some (statement.Equ w value)) b h in
    let y = bind_some (name_in a) (λ w. Some (statement.Equ w x.0)) b x.2 in
    let e = bind_some (expr_in c) (λ e. cond (is_signed e) (Some e) None) x.0 x.1 in
    let signed = test_true (is_signed e.0) (Some e.0) x.0 e.2 in
    let v = bind_some (expr_in a) name_of y.0 y.1 in
    subst IsDefinition (some_is (statement.Equ y.0 x.0) b y.2) (name-defined v.0 y.0 v.2, subst IsConstant (some_is e.0 x.0 signed.1) (signed-constant e.0 signed.0))
equ-defines _ b h = absurd cc

-- ---- the other statements

set-defines : (os : List Operand) (b : Statement) → set_of os ≡ Some b → IsDefinition b
unfolding set_of
set-defines (a ∷ d ∷ []) b h =
    let x = bind_some (register_in d) (λ rd. expr_in a >>= λ e. Some (statement.Set e rd)) b h in
    let y = bind_some (expr_in a) (λ e. Some (statement.Set e x.0)) b x.2 in
    subst IsDefinition (some_is (statement.Set y.0 x.0) b y.2) tt
set-defines _ b h = absurd cc

motion-defines : (m : Motion) (os : List Operand) (b : Statement) → motion_of m os ≡ Some b → IsDefinition b
unfolding motion_of
motion-defines m (a ∷ []) b h =
    let x = bind_some (number_in a) (λ n. Some (statement.Motion m n)) b h in
    subst IsDefinition (some_is (statement.Motion m x.0) b x.2) tt
motion-defines m _ b h = absurd cc

data-defines : (w : Width) (os : List Operand) (b : Statement) → data_of w os ≡ Some b → IsDefinition b
unfolding data_of
data-defines w [] b h = absurd cc
data-defines w (o ∷ os) b h =
    let x = bind_some (exprs_in (o ∷ os)) (λ es. Some (statement.Data w es)) b h in
    subst IsDefinition (some_is (statement.Data w x.0) b x.2) tt

ascii-defines : (os : List Operand) (b : Statement) → ascii_of os ≡ Some b → IsDefinition b
unfolding ascii_of
ascii-defines (a ∷ []) b h =
    let x = bind_some (text_in a) (λ t. Some (statement.Ascii t)) b h in
    subst IsDefinition (some_is (statement.Ascii x.0) b x.2) tt
ascii-defines _ b h = absurd cc

directive-defines : (d : Directive) (os : List Operand) (b : Statement) → directive_of d os ≡ Some b → IsDefinition b
unfolding directive_of
directive-defines directive.Set os b h = set-defines os b h
directive-defines (directive.Motion m) os b h = motion-defines m os b h
directive-defines (directive.Data w) os b h = data-defines w os b h
directive-defines directive.Ascii os b h = ascii-defines os b h
directive-defines directive.Equ os b h = equ-defines os b h

either-defines : (o : Option Directive) (s : Shape) (os : List Operand) (b : Statement) → directive_or_instruction o s os ≡ Some b → IsDefinition b
either-defines (Some d) s os b h = directive-defines d os b h
either-defines None s os b h =
    let x = bind_some (instruction_of s os) (λ i. Some (statement.Instruction i)) b h in
    subst IsDefinition (some_is (statement.Instruction x.0) b x.2) tt

form-defines : (s : Shape) (os : List Operand) (b : Statement) → form_of s os ≡ Some b → IsDefinition b
unfolding form_of
form-defines s os b h = either-defines (directive_in s) s os b h

shaped-defines : (s : Shape) (ts : List Token) (b : Statement) → shaped s ts ≡ Some b → IsDefinition b
unfolding shaped
shaped-defines s ts b h =
    let x = bind_some (operands_of (parts_of ts)) (form_of s) b h in
    form-defines s x.0 b x.2

statement-defines : (ts : List Token) (b : Option Statement) → statement_of ts ≡ Some b → IfSome b IsDefinition
unfolding statement_of
statement-defines [] b h = subst (λ (c : Option Statement). IfSome c IsDefinition) (some_is None b h) tt
statement-defines (Word name ∷ ts) b h =
    let s = bind_some (shape_named name) (λ s. flagged s ts (behind_annul ts) >>= λ x. shaped x.0 x.1 >>= λ c. Some (Some c)) b h in
    let x = bind_some (flagged s.0 ts (behind_annul ts)) (λ x. shaped x.0 x.1 >>= λ c. Some (Some c)) b s.2 in
    let y = bind_some (shaped x.0.0 x.0.1) (λ c. Some (Some c)) b x.2 in
    subst (λ (c : Option Statement). IfSome c IsDefinition) (some_is (Some y.0) b y.2) (shaped-defines x.0.0 x.0.1 y.0 y.1)
statement-defines _ b h = absurd cc

-- ---- labels

abbrev IsDigit : Token → Type 0
IsDigit (Local d) = d < 10
IsDigit _ = Unit {0}

digit_small : (c : ℕ) → is_digit c ≡ true → c - 48 < 10
digit_small c h =
    let both = and_true (leb 48 c) (leb c 57) h in
    let below = leb-true c 57 both.1 in
    omega arith

spelled-digit : (t : Token) (text : List ℕ) → Spells t text → IsDigit t
spelled-digit _ _ (label_text d gap h pass) = digit_small d h
spelled-digit _ _ _ = tt

cut-digit : (text : List ℕ) (d : ℕ) (ts : List Token) → IsCutInto text (Local d ∷ ts) → d < 10
cut-digit _ d ts (cut_token gap text rest t us pass spelled ends more) = spelled-digit t text spelled

label-defines : (text : List ℕ) (ts : List Token) → IsCutInto text ts → IfSome (label_front ts).0 IsLabel
unfolding label_front
label-defines text (Word name ∷ Mark mark.Colon ∷ ts) cut =
    let front : Bool → Option Label × List Token = λ v. cond v (None, Word name ∷ Mark mark.Colon ∷ ts) (Some (label.Name name), ts) in
    let P : Bool → Type 0 = λ v. is_reference name ≡ v → IfSome (front v).0 IsLabel in
    let all : (v : Bool) → P v = λ v. elim v as P [ true ↦ λ e. tt | false ↦ λ e. e ] in
    all (is_reference name) refl
label-defines text (Local d ∷ ts) cut = cut-digit text d ts cut
label-defines text ts cut = tt

pub line-defines : (text : List ℕ) (ts : List Token) (s : Stmt) → IsCutInto text ts → line_of ts ≡ Some s → Defines s
unfolding line_of
line-defines text ts s cut h =
    let x = bind_some (statement_of (label_front ts).1) (λ b. Some (line (label_front ts).0 b)) s h in
    subst Defines (some_is (line (label_front ts).0 x.0) s x.2) (label-defines text ts cut, statement-defines (label_front ts).1 x.0 x.1)

pub given-defines : (text : List ℕ) (ts : List Token) (r : Result Stmt (Refused LineFault)) → IsCutInto text ts → Gives (λ (s : Stmt). s) r (line_of ts) → IfOk r (λ s. Defines s)
given-defines text ts (Ok s) cut h = line-defines text ts s cut h
given-defines text ts (Err e) cut h = tt
