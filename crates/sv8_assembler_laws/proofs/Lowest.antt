-- Which fault is named.
use Rattle.std.proofs.Common.{◌≡◌, ◌∙◌, ℕ, ℤ, pos, neg_ℤ, IfSome, suc, ◌-◌, ◌+◌, ◌*◌, ◌%◌, ◌^◌, ◌==◌, ◌≤◌, ◌⊎◌, inl, inr, List, [], ◌∷◌, ◌++◌, length, Option, Some, None, Result, Ok, Err, Bool, true, false, cond, nat_lt, is_some, refl, sym, ap, arith}
use Rattle.sv8_statements.specs.declared.fault.LineFault.{LineFault}
use Rattle.sv8_statements.specs.declared.fault.LineFault.TheVariants.{DuplicateLabel, OutOfRange, BadAlignment, OrgBackwards, ImageTooLarge}
use Rattle.sv8_statements.specs.declared.statement.Label.{Label}
use Rattle.sv8_statements.specs.declared.statement.Label.TheVariants as label
use Rattle.sv8_statements.specs.declared.statement.Motion.TheVariants as motion
use Rattle.sv8_statements.specs.declared.statement.Statement.{Statement}
use Rattle.sv8_statements.specs.declared.statement.Statement.TheVariants as statement
use Rattle.sv8_statements.specs.declared.statement.Stmt.{Stmt}
use Rattle.sv8_statements.specs.declared.value.Expr.TheVariants as expr
use Rattle.sv8_statements.specs.Faults.{rank}
use Rattle.sv8_statements.specs.Names.{Defines, IsDefinition}
use Rattle.sv8_asm.specs.Code.{bytes}
use Rattle.sv8_asm.specs.Names.{Names, defined, with_name}
use Rattle.sv8_asm.specs.Size.{plain, set_count, bytes_of_width, size, size_of_statement, is_alignment}
use Rattle.sv8_source.specs.declared.fault.SourceFault.{SourceFault}
use Rattle.sv8_source.specs.declared.fault.SourceFault.TheVariants.{Line}
use Rattle.sv8_source.specs.Fault.{after_line}
use Rattle.sv8_source.specs.Layout.{Layout, Place, start, on_ok, define, define_label, define_equ, moved, admitted, with_line, laid, valued}
use Rattle.sv8_source.specs.Text.{with_layout, both_passes, assembled, err_of}
use Rattle.sv8_assembler_laws.specs.FaultLaws.{FirstOfLayout, FirstOfValues, LowestLineIsNamed, HasFault, of_label, of_number, of_size, of_limit, LeastFaultIsNamed}

-- ---- the lowest line

record LayoutStop (limit n : ℕ) (texts : List (List ℕ)) (l : Layout) (e : SourceFault) : Type 0 where
  front : List (List ℕ)
  text : List ℕ
  back : List (List ℕ)
  lines : texts ≡ front ++ text ∷ back
  before : Layout
  done : laid limit n front l ≡ Ok before
  fault : LineFault
  faulty : with_line limit (n + length front) text before ≡ Err fault
  named : e ≡ Line (n + length front) fault

layout_stop : (limit n : ℕ) (texts : List (List ℕ)) (l : Layout) (e : SourceFault) → laid limit n texts l ≡ Err e → LayoutStop limit n texts l e
layout_stop limit n [] l e h = absurd (cc)
layout_stop limit n (text ∷ texts) l e h = go (λ next. layout_stop limit (n + 1) texts next e) (with_line limit n text l) refl h
  where
    go : ((next : Layout) → laid limit (n + 1) texts next ≡ Err e → LayoutStop limit (n + 1) texts next e)
        → (r : Result Layout LineFault) → with_line limit n text l ≡ r → after_line n r (λ next. laid limit (n + 1) texts next) ≡ Err e → LayoutStop limit n (text ∷ texts) l e
    go ih (Err f) g k =
        let zero : n ≡ n + 0 = omega arith in
        let same : Line n f ≡ e = cc in
        record { front = []; text = text; back = texts; lines = refl; before = l; done = refl; fault = f; faulty = rw (← zero) g; named = rw (← zero) (sym same) }
    go ih (Ok next) g k =
        let t = ih next k in
        let count : n + suc (length t.front) ≡ (n + 1) + length t.front = omega arith in
        record {
          front = text ∷ t.front;
          text = t.text;
          back = t.back;
          lines = ap (λ x. text ∷ x) t.lines;
          before = t.before;
          done = ap (λ r. after_line n r (λ m. laid limit (n + 1) t.front m)) g ∙ t.done;
          fault = t.fault;
          faulty = rw count t.faulty;
          named = rw count t.named;
        }

record ValueStop (symbols : Names) (n : ℕ) (ps : List Place) (done : List (List ℕ)) (e : SourceFault) : Type 0 where
  front : List Place
  place : Place
  back : List Place
  places : ps ≡ front ++ place ∷ back
  code : List (List ℕ)
  coded : valued symbols n front done ≡ Ok code
  fault : LineFault
  faulty : bytes place.stmt (n + length front) place.at symbols ≡ Err fault
  named : e ≡ Line (n + length front) fault

value_stop : (symbols : Names) (n : ℕ) (ps : List Place) (done : List (List ℕ)) (e : SourceFault) → valued symbols n ps done ≡ Err e → ValueStop symbols n ps done e
value_stop symbols n [] done e h = absurd (cc)
value_stop symbols n (p ∷ ps) done e h = go (λ b. value_stop symbols (n + 1) ps (done ++ b ∷ []) e) (bytes p.stmt n p.at symbols) refl h
  where
    go : ((b : List ℕ) → valued symbols (n + 1) ps (done ++ b ∷ []) ≡ Err e → ValueStop symbols (n + 1) ps (done ++ b ∷ []) e)
        → (r : Result (List ℕ) LineFault) → bytes p.stmt n p.at symbols ≡ r → after_line n r (λ b. valued symbols (n + 1) ps (done ++ b ∷ [])) ≡ Err e → ValueStop symbols n (p ∷ ps) done e
    go ih (Err f) g k =
        let zero : n ≡ n + 0 = omega arith in
        let same : Line n f ≡ e = cc in
        record { front = []; place = p; back = ps; places = refl; code = done; coded = refl; fault = f; faulty = rw (← zero) g; named = rw (← zero) (sym same) }
    go ih (Ok b) g k =
        let t = ih b k in
        let count : n + suc (length t.front) ≡ (n + 1) + length t.front = omega arith in
        record {
          front = p ∷ t.front;
          place = t.place;
          back = t.back;
          places = ap (λ x. p ∷ x) t.places;
          code = t.code;
          coded = ap (λ r. after_line n r (λ c. valued symbols (n + 1) t.front (done ++ c ∷ []))) g ∙ t.coded;
          fault = t.fault;
          faulty = rw count t.faulty;
          named = rw count t.named;
        }

pub lowest_line_is_named : LowestLineIsNamed
unfolding assembled
lowest_line_is_named s e h = passes (laid s.limit 1 s.lines start) refl h
  where
    values : (l : Layout) (r : Result (List (List ℕ)) SourceFault) → valued l.symbols 1 l.places [] ≡ r → laid s.limit 1 s.lines start ≡ Ok l → err_of (with_layout l r) ≡ Some e → FirstOfLayout s e ⊎ FirstOfValues s e
    values l (Ok code) f g k = absurd (cc)
    values l (Err x) f g k =
        let same : x ≡ e = cc in
        let t = value_stop l.symbols 1 l.places [] e (f ∙ ap Err same) in
        inr (record { layout = l; laid = g; front = t.front; place = t.place; back = t.back; places = t.places; code = t.code; valued = t.coded; fault = t.fault; faulty = t.faulty; named = t.named })

    passes : (r : Result Layout SourceFault) → laid s.limit 1 s.lines start ≡ r → err_of (both_passes r) ≡ Some e → FirstOfLayout s e ⊎ FirstOfValues s e
    passes (Ok l) g k = values l (valued l.symbols 1 l.places []) refl g k
    passes (Err x) g k =
        let same : x ≡ e = cc in
        let t = layout_stop s.limit 1 s.lines start e (g ∙ ap Err same) in
        inl (record { front = t.front; text = t.text; back = t.back; lines = t.lines; before = t.before; laid = t.done; fault = t.fault; faulty = t.faulty; named = t.named })

-- ---- the lowest number

on_true : {A : Type 0} (t : Bool) (v : A) (x g : LineFault) → cond t (Ok v) (Err x) ≡ Err g → g ≡ x
on_true true v x g h = absurd (cc)
on_true false v x g h = let same : x ≡ g = cc in sym same

on_false : {A : Type 0} (t : Bool) (v : A) (x g : LineFault) → cond t (Err x) (Ok v) ≡ Err g → g ≡ x
on_false true v x g h = let same : x ≡ g = cc in sym same
on_false false v x g h = absurd (cc)

name_again : (name : List ℕ) (value : ℤ) (symbols : Names) (g : LineFault) → define name value symbols ≡ Err g → rank g ≡ 8
name_again name value symbols g h = ap rank (on_false (is_some (defined symbols.named name)) (with_name name value symbols) DuplicateLabel g h)

label_again : (l : Option Label) (n at : ℕ) (symbols : Names) (g : LineFault) → define_label l n at symbols ≡ Err g → rank g ≡ 8
label_again None n at symbols g h = absurd (cc)
label_again (Some (label.Name name)) n at symbols g h = name_again name (pos at) symbols g h
label_again (Some (label.Local d)) n at symbols g h = absurd (cc)

number_again : (t : Option Statement) (symbols : Names) (g : LineFault) → IfSome t IsDefinition → define_equ t symbols ≡ Err g → rank g ≡ 8
number_again None symbols g d h = absurd (cc)
number_again (Some (statement.Equ name (expr.Number n))) symbols g d h = name_again name (pos n) symbols g h
number_again (Some (statement.Equ name (expr.Minus n))) symbols g d h = name_again name (neg_ℤ (pos n)) symbols g h
number_again (Some (statement.Equ name (expr.Name w))) symbols g d h = absurd d.1
number_again (Some (statement.Equ name (expr.Plus w n))) symbols g d h = absurd d.1
number_again (Some (statement.Equ name (expr.Less w n))) symbols g d h = absurd d.1
number_again (Some (statement.Instruction i)) symbols g d h = absurd (cc)
number_again (Some (statement.Set value rd)) symbols g d h = absurd (cc)
number_again (Some (statement.Data w values)) symbols g d h = absurd (cc)
number_again (Some (statement.Ascii text)) symbols g d h = absurd (cc)
number_again (Some (statement.Motion m n)) symbols g d h = absurd (cc)

size_fault : (s : Option Statement) (at : ℕ) (g : LineFault) → size_of_statement s at ≡ Err g → 9 ≤ rank g
size_fault None at g h = absurd (cc)
size_fault (Some (statement.Instruction i)) at g h = rw (on_true (at % 4 == 0) 4 BadAlignment g h) (omega arith)
size_fault (Some (statement.Set value rd)) at g h = rw (on_true (at % 4 == 0) (4 * set_count (plain value)) BadAlignment g h) (omega arith)
size_fault (Some (statement.Data w values)) at g h = rw (on_true (at % bytes_of_width w == 0) (bytes_of_width w * length values) BadAlignment g h) (omega arith)
size_fault (Some (statement.Ascii text)) at g h = rw (on_true (nat_lt (length text) (2 ^ 32)) (length text) ImageTooLarge g h) (omega arith)
size_fault (Some (statement.Motion motion.Org n)) at g h = rw (on_false (nat_lt n at) (n - at) OrgBackwards g h) (omega arith)
size_fault (Some (statement.Motion motion.Skip n)) at g h = absurd (cc)
size_fault (Some (statement.Motion motion.Align n)) at g h = rw (on_true (is_alignment n) ((n - at % n) % n) OutOfRange g h) (omega arith)
size_fault (Some (statement.Equ name value)) at g h = absurd (cc)

size_rank : (s : Stmt) (at : ℕ) (g : LineFault) → size s at ≡ Err g → 9 ≤ rank g
unfolding size
size_rank s at g h = size_fault s.statement at g h

limit_rank : (limit at count : ℕ) (g : LineFault) → moved limit at count ≡ Err g → rank g ≡ 12
limit_rank limit at count g h = ap rank (on_false (nat_lt limit (at + count)) (at + count) ImageTooLarge g h)

at_least_8 : (limit n at : ℕ) (s : Stmt) (symbols : Names) (g : LineFault) → Defines s → HasFault limit n at s symbols g → 8 ≤ rank g
at_least_8 limit n at s symbols g d (of_label h) = let r = label_again s.label n at symbols g h in omega (arith, r)
at_least_8 limit n at s symbols g d (of_number labelled e h) = let r = number_again s.statement labelled g d.1 h in omega (arith, r)
at_least_8 limit n at s symbols g d (of_size h) = let r = size_rank s at g h in omega (arith, r)
at_least_8 limit n at s symbols g d (of_limit count e h) = let r = limit_rank limit at count g h in omega (arith, r)

pub least_fault_is_named : LeastFaultIsNamed
unfolding admitted
least_fault_is_named limit n at s symbols f g d h has = labels (define_label s.label n at symbols) refl h
  where
    limits : (count : ℕ) (r : Result ℕ LineFault) (known labelled : Names) → moved limit at count ≡ r → size s at ≡ Ok count → define_equ s.statement labelled ≡ Ok known → define_label s.label n at symbols ≡ Ok labelled
        → on_ok {B = Names × ℕ} r (λ next. Ok (known, next)) ≡ Err f → HasFault limit n at s symbols g → rank f ≤ rank g
    limits count (Ok next) known labelled e c k l i has = absurd (cc)
    limits count (Err x) known labelled e c k l i (of_label j) = absurd (cc)
    limits count (Err x) known labelled e c k l i (of_number other o j) = let same : other ≡ labelled = cc in absurd (cc (rw same at j))
    limits count (Err x) known labelled e c k l i (of_size j) = absurd (cc)
    limits count (Err x) known labelled e c k l i (of_limit other o j) =
        let same : other ≡ count = cc in
        let first : x ≡ f = cc in
        let second : moved limit at count ≡ Err g = rw (← same) j in
        let both : f ≡ g = cc in
        rw both (omega arith)

    sizes : (r : Result ℕ LineFault) (known labelled : Names) → size s at ≡ r → define_equ s.statement labelled ≡ Ok known → define_label s.label n at symbols ≡ Ok labelled
        → on_ok {B = Names × ℕ} r (λ count. on_ok (moved limit at count) (λ next. Ok (known, next))) ≡ Err f → HasFault limit n at s symbols g → rank f ≤ rank g
    sizes (Ok count) known labelled e k l i has = limits count (moved limit at count) known labelled refl e k l i has
    sizes (Err x) known labelled e k l i (of_label j) = absurd (cc)
    sizes (Err x) known labelled e k l i (of_number other o j) = let same : other ≡ labelled = cc in absurd (cc (rw same at j))
    sizes (Err x) known labelled e k l i (of_size j) = let both : f ≡ g = cc in rw both (omega arith)
    sizes (Err x) known labelled e k l i (of_limit other o j) = absurd (cc)

    numbers : (r : Result Names LineFault) (labelled : Names) → define_equ s.statement labelled ≡ r → define_label s.label n at symbols ≡ Ok labelled
        → on_ok {B = Names × ℕ} r (λ known. on_ok (size s at) (λ count. on_ok (moved limit at count) (λ next. Ok (known, next)))) ≡ Err f → rank f ≤ rank g
    numbers (Ok known) labelled e l i = sizes (size s at) known labelled refl e l i has
    numbers (Err x) labelled e l i =
        let same : x ≡ f = cc in
        let r = number_again s.statement labelled x d.1 e in
        let m = at_least_8 limit n at s symbols g d has in
        rw (← same) (omega (arith, r, m))

    labels : (r : Result Names LineFault) → define_label s.label n at symbols ≡ r
        → on_ok {B = Names × ℕ} r (λ labelled. on_ok (define_equ s.statement labelled) (λ known. on_ok (size s at) (λ count. on_ok (moved limit at count) (λ next. Ok (known, next))))) ≡ Err f → rank f ≤ rank g
    labels (Ok labelled) e i = numbers (define_equ s.statement labelled) labelled refl e i
    labels (Err x) e i =
        let same : x ≡ f = cc in
        let r = label_again s.label n at symbols x e in
        let m = at_least_8 limit n at s symbols g d has in
        rw (← same) (omega (arith, r, m))
