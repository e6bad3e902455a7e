-- A statement's bytes rest on the names that it uses.
use Rattle.std.proofs.Common.{◌≡◌, ◌∙◌, ℕ, ℤ, pos, neg_ℤ, ◌-◌, ◌^◌, ◌/◌, List, [], ◌∷◌, Option, Some, None, Result, Bool, true, false, ◌||◌, ◌&&◌, refl, ap}
use Rattle.std.specs.List.{list_any, list_all}
use Rattle.std.specs.Str.{bytes_eq}
use Rattle.std.proofs.lemmas.Bool.Decides.{Decides-int_eq}
use Rattle.std.proofs.lemmas.Slice.Eq.{bytes_eq-Decides}
use Rattle.sv8_statements.specs.declared.fault.LineFault.{LineFault}
use Rattle.sv8_statements.specs.declared.value.Expr.{Expr}
use Rattle.sv8_statements.specs.declared.value.Expr.TheVariants as expr
use Rattle.sv8_statements.specs.declared.value.Imm.TheVariants as imm
use Rattle.sv8_statements.specs.declared.value.RegOrImm.TheVariants as operand
use Rattle.sv8_statements.specs.declared.value.Upper.TheVariants as upper
use Rattle.sv8_statements.specs.declared.statement.Instruction.TheVariants as instruction
use Rattle.sv8_statements.specs.declared.statement.Width.{Width}
use Rattle.sv8_statements.specs.declared.statement.Statement.{Statement}
use Rattle.sv8_statements.specs.declared.statement.Statement.TheVariants as statement
use Rattle.sv8_statements.specs.Registers.{number_of_register}
use Rattle.sv8_isa.specs.declared.instr.Instr.TheVariants as instr
use Rattle.sv8_isa.specs.declared.instr.Operand.TheVariants as source
use Rattle.sv8_asm.specs.Names.{Names, get}
use Rattle.sv8_asm.specs.Size.{plain}
use Rattle.sv8_asm.specs.Value.{moved_by, value_of, within, as_word, displacement, call_displacement}
use Rattle.sv8_asm.specs.Code.{on_ok, least_immediate, most_immediate, low_part, magnitude, format_3, set_instructions, code, least_datum, most_datum, datum_bytes, before, data_bytes, bytes_of_statement, bytes}
use Rattle.sv8_asm.specs.Uses.{has_name, is_same, agree_on, exprs_of, exprs, uses, agree}
use Rattle.sv8_asm.specs.Laws.{UsedNamesDecide, AgreeingNamesDecide}

-- two tables, each with the line in which it is asked
record Two : Type 0 where
  names : Names
  line : ℕ
  others : Names
  other : ℕ

-- they agree on the names of these expressions
abbrev OnNames : Two → List Expr → Type 0
OnNames t es = (name : List ℕ) → list_any (has_name name) es ≡ true → get t.names name t.line ≡ get t.others name t.other

-- an expression has the same value in both
abbrev Same : Two → Expr → Type 0
Same t e = value_of t.names t.line e ≡ value_of t.others t.other e

itself : (w : List ℕ) → bytes_eq w w ≡ true
itself w = (bytes_eq-Decides w w).1 refl

-- an expression that is the first one
first_value : (t : Two) (e : Expr) (es : List Expr) → OnNames t (e ∷ es) → Same t e
first_value t (expr.Number n) es h = refl
first_value t (expr.Minus n) es h = refl
first_value t (expr.Name w) es h = h w (rw (itself w) refl)
first_value t (expr.Plus w n) es h = ap (moved_by (pos n)) (h w (rw (itself w) refl))
first_value t (expr.Less w n) es h = ap (moved_by (neg_ℤ (pos n))) (h w (rw (itself w) refl))

later : (t : Two) (e : Expr) (es : List Expr) → OnNames t (e ∷ es) → OnNames t es
later t e es h = λ name g. h name (behind (has_name name e) (list_any (has_name name) es) g)
  where
    behind : (a b : Bool) → b ≡ true → (a || b) ≡ true
    behind true b g = refl
    behind false b g = g

data_same : (t : Two) (w : Width) (es : List Expr) → OnNames t es → data_bytes t.names t.line w es ≡ data_bytes t.others t.other w es
unfolding data_bytes
data_same t w [] h = refl
data_same t w (e ∷ es) h =
    ap (λ v. before (on_ok (within (least_datum w) (most_datum w) v) (datum_bytes w)) (data_bytes t.names t.line w es)) (first_value t e es h)
    ∙ ap (λ r. before (on_ok (within (least_datum w) (most_datum w) (value_of t.others t.other e)) (datum_bytes w)) r) (data_same t w es (later t e es h))

abbrev word_of_value : Option ℤ → Result ℕ LineFault
word_of_value v = as_word (within (neg_ℤ (pos (2 ^ 31))) (pos (2 ^ 32 - 1)) v)

statement_same : (t : Two) (s : Option Statement) (at : ℕ) → OnNames t (exprs_of s) → bytes_of_statement s t.line at t.names ≡ bytes_of_statement s t.other at t.others
statement_same t None at h = refl
statement_same t (Some (statement.Instruction (instruction.Format3 o rd rs1 (operand.Register r)))) at h = refl
statement_same t (Some (statement.Instruction (instruction.Format3 o rd rs1 (operand.Immediate (imm.Value e))))) at h =
    ap (λ v. code (on_ok (on_ok (on_ok (within (least_immediate o) (most_immediate o) v) source.Immediate) (format_3 o (number_of_register rd) (number_of_register rs1))) (λ x. x ∷ []))) (first_value t e [] h)
statement_same t (Some (statement.Instruction (instruction.Format3 o rd rs1 (operand.Immediate (imm.Low e))))) at h =
    ap (λ v. code (on_ok (on_ok (on_ok (on_ok (word_of_value v) low_part) source.Immediate) (format_3 o (number_of_register rd) (number_of_register rs1))) (λ x. x ∷ []))) (first_value t e [] h)
statement_same t (Some (statement.Instruction (instruction.Alternate o rd rs1 rs2 asi))) at h = refl
statement_same t (Some (statement.Instruction (instruction.Branch cond annul target))) at h =
    ap (λ v. code (on_ok (on_ok (displacement at v) (instr.Bicc cond annul)) (λ x. x ∷ []))) (first_value t target [] h)
statement_same t (Some (statement.Instruction (instruction.Call target))) at h =
    ap (λ v. code (on_ok (on_ok (call_displacement at (within (neg_ℤ (pos (2 ^ 31))) (pos (2 ^ 32 - 1)) v)) instr.Call) (λ x. x ∷ []))) (first_value t target [] h)
statement_same t (Some (statement.Instruction (instruction.Sethi (upper.Value e) rd))) at h =
    ap (λ v. code (on_ok (on_ok (on_ok (within (pos 0) (pos (2 ^ 22 - 1)) v) magnitude) (λ imm22. instr.Sethi imm22 (number_of_register rd))) (λ x. x ∷ []))) (first_value t e [] h)
statement_same t (Some (statement.Instruction (instruction.Sethi (upper.High e) rd))) at h =
    ap (λ v. code (on_ok (on_ok (on_ok (word_of_value v) (λ word. word / 2 ^ 10)) (λ imm22. instr.Sethi imm22 (number_of_register rd))) (λ x. x ∷ []))) (first_value t e [] h)
statement_same t (Some (statement.Instruction (instruction.Unimp n))) at h = refl
statement_same t (Some (statement.Set value rd)) at h =
    ap (λ v. code (set_instructions (plain value) (word_of_value v) (number_of_register rd))) (first_value t value [] h)
statement_same t (Some (statement.Data w values)) at h = data_same t w values h
statement_same t (Some (statement.Ascii text)) at h = refl
statement_same t (Some (statement.Motion m n)) at h = refl
statement_same t (Some (statement.Equ name value)) at h = refl

pub used_names_decide : UsedNamesDecide
unfolding bytes uses exprs
used_names_decide s at line other names others h = statement_same (record { names = names; line = line; others = others; other = other }) s.statement at h

-- ---- as `agree` finds it

same_value : (v u : Option ℤ) → is_same v u ≡ true → v ≡ u
same_value None None h = refl
same_value None (Some u) h = absurd (cc)
same_value (Some v) None h = absurd (cc)
same_value (Some v) (Some u) h = ap Some ((Decides-int_eq v u).0 h)

left : (a b : Bool) → (a && b) ≡ true → a ≡ true
left true b h = refl
left false b h = absurd (cc)

right : (a b : Bool) → (a && b) ≡ true → b ≡ true
right true b h = h
right false b h = absurd (cc)

named_alike : (t : Two) (w name : List ℕ) → is_same (get t.names w t.line) (get t.others w t.other) ≡ true → bytes_eq w name ≡ true → get t.names name t.line ≡ get t.others name t.other
named_alike t w name h e =
    let f : w ≡ name = (bytes_eq-Decides w name).0 e in
    rw (← f) (same_value (get t.names w t.line) (get t.others w t.other) h)

here : (t : Two) (e : Expr) (name : List ℕ) → agree_on t.names t.line t.others t.other e ≡ true → has_name name e ≡ true → get t.names name t.line ≡ get t.others name t.other
here t (expr.Number n) name h g = absurd (cc)
here t (expr.Minus n) name h g = absurd (cc)
here t (expr.Name w) name h g = named_alike t w name h g
here t (expr.Plus w n) name h g = named_alike t w name h g
here t (expr.Less w n) name h g = named_alike t w name h g

all_named : (t : Two) (es : List Expr) → list_all (agree_on t.names t.line t.others t.other) es ≡ true → OnNames t es
all_named t [] h = λ name g. absurd (cc)
all_named t (e ∷ es) h = λ name g. go (all_named t es (right (agree_on t.names t.line t.others t.other e) (list_all (agree_on t.names t.line t.others t.other) es) h)) name (has_name name e) refl g
  where
    go : OnNames t es → (name : List ℕ) (b : Bool) → has_name name e ≡ b → (b || list_any (has_name name) es) ≡ true → get t.names name t.line ≡ get t.others name t.other
    go ih name true f g = here t e name (left (agree_on t.names t.line t.others t.other e) (list_all (agree_on t.names t.line t.others t.other) es) h) f
    go ih name false f g = ih name g

pub agreeing_names_decide : AgreeingNamesDecide
unfolding agree uses exprs
agreeing_names_decide s line other names others h =
    let used = all_named (record { names = names; line = line; others = others; other = other }) (exprs_of s.statement) h in
    (used, λ at. used_names_decide s at line other names others used)
