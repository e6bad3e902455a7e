-- What the names stand for behind the layout pass.
use Rattle.std.proofs.Common.{◌≡◌, ◌∙◌, ℕ, ℤ, pos, zero, suc, ◌+◌, ◌⊎◌, inl, inr, Bool, true, false, cond, List, [], ◌∷◌, Option, Some, None, Ok, refl, sym, ap}
use Rattle.std.specs.List.{slice_get}
use Rattle.std.specs.Option.{option_or}
use Rattle.std.specs.Str.{bytes_eq}
use Rattle.std.proofs.lemmas.Slice.Eq.{bytes_eq-Decides}
use Rattle.sv8_statements.specs.declared.statement.Label.{Label}
use Rattle.sv8_statements.specs.declared.statement.Label.TheVariants as label
use Rattle.sv8_statements.specs.declared.statement.Statement.{Statement}
use Rattle.sv8_statements.specs.declared.statement.Statement.TheVariants as statement
use Rattle.sv8_statements.specs.declared.statement.Stmt.{Stmt}
use Rattle.sv8_statements.specs.declared.value.Expr.{Expr}
use Rattle.sv8_syntax.specs.Reading.{reading}
use Rattle.sv8_asm.specs.Names.{Names, no_names, defined, with_mark}
use Rattle.sv8_asm.specs.Size.{plain}
use Rattle.sv8_source.specs.Layout.{Place, define, define_label, define_number, define_equ}
use Rattle.sv8_assembler_laws.specs.LayoutLaws.{ReadsAs, location_in, location, StandsFor, of_label, of_number, NamesAreDefined}
use Rattle.sv8_source.proofs.LaidLines.{Chain, lines_chain}
use Rattle.sv8_source.proofs.LaidNames.{Defined, defined_append, define_is, defined_keeps, defined_there}

-- ---- one name more

-- what a table gained: it keeps what it had, and what else it has is new
record Gains (old new : Names) (IsNew : List ℕ → ℤ → Type 0) : Type 0 where
  keeps : (q : List ℕ) (x : ℤ) → defined old.named q ≡ Some x → defined new.named q ≡ Some x
  back : (q : List ℕ) (x : ℤ) → defined new.named q ≡ Some x → (defined old.named q ≡ Some x) ⊎ IsNew q x

gains_nothing : (old new : Names) (IsNew : List ℕ → ℤ → Type 0) → new.named ≡ old.named → Gains old new IsNew
gains_nothing old new IsNew e = record {
  keeps = λ q x h. ap (λ ns. defined ns q) e ∙ h;
  back = λ q x h. inl (ap (λ ns. defined ns q) (sym e) ∙ h);
}

-- the name alone is new
abbrev IsName : List ℕ → ℤ → List ℕ → ℤ → Type 0
IsName name value q x = (q ≡ name) × (x ≡ value)

defined_back : (name : List ℕ) (value : ℤ) (old new : Names) → Defined name value old new → (q : List ℕ) (x : ℤ) → defined new.named q ≡ Some x → (defined old.named q ≡ Some x) ⊎ IsName name value q x
defined_back name value old new d q x h =
    go (defined old.named q) refl (bytes_eq name q) refl (sym (ap (λ m. defined m.named q) d.made ∙ defined_append old.named ((name, value) ∷ []) q) ∙ h)
  where
    go : (o : Option ℤ) → defined old.named q ≡ o → (b : Bool) → bytes_eq name q ≡ b → option_or o (cond b (Some value) None) ≡ Some x → (defined old.named q ≡ Some x) ⊎ IsName name value q x
    go (Some y) e b f g = inl (e ∙ g)
    go None e true f g = let same : value ≡ x = cc in inr (sym ((bytes_eq-Decides name q).0 f), sym same)
    go None e false f g = absurd (cc)

gains_name : (name : List ℕ) (value : ℤ) (old new : Names) → define name value old ≡ Ok new → Gains old new (IsName name value)
gains_name name value old new h =
    let d = define_is name value old new h in
    record { keeps = defined_keeps name value old new d; back = defined_back name value old new d }

gains_as : (old new : Names) (A B : List ℕ → ℤ → Type 0) → ((q : List ℕ) (x : ℤ) → A q x → B q x) → Gains old new A → Gains old new B
gains_as old new A B f g = record { keeps = g.keeps; back = λ q x h. either (g.back q x h) }
  where
    either : {q : List ℕ} {x : ℤ} → (defined old.named q ≡ Some x) ⊎ A q x → (defined old.named q ≡ Some x) ⊎ B q x
    either (inl h) = inl h
    either (inr h) = inr (f _ _ h)

-- ---- one line

-- the names of a line: its label, and what `.equ` gives a number
abbrev IsLabel : Option Label → ℕ → List ℕ → ℤ → Type 0
IsLabel l at q x = (l ≡ Some (label.Name q)) × (x ≡ pos at)

abbrev IsNumber : Option Statement → List ℕ → ℤ → Type 0
IsNumber t q x = (value : Expr) × (t ≡ Some (statement.Equ q value)) × (plain value ≡ Some x)

label_gains : (l : Option Label) (n at : ℕ) (old new : Names) → define_label l n at old ≡ Ok new → Gains old new (IsLabel l at)
label_gains None n at old new h = let same : old ≡ new = cc in gains_nothing old new _ (ap (λ m. m.named) (sym same))
label_gains (Some (label.Name name)) n at old new h =
    gains_as old new _ _ (λ q x i. (ap (λ w. Some (label.Name w)) (sym i.0), i.1)) (gains_name name (pos at) old new h)
label_gains (Some (label.Local d)) n at old new h = let same : with_mark d n at old ≡ new = cc in gains_nothing old new _ (ap (λ m. m.named) (sym same))

label_there : (l : Option Label) (n at : ℕ) (old new : Names) (name : List ℕ) → define_label l n at old ≡ Ok new → l ≡ Some (label.Name name) → defined new.named name ≡ Some (pos at)
label_there l n at old new name h e =
    defined_there name (pos at) old new (define_is name (pos at) old new (ap (λ x. define_label x n at old) (sym e) ∙ h))

number_gains : (name : List ℕ) (value : Expr) (o : Option ℤ) (old new : Names) → plain value ≡ o → define_number name o old ≡ Ok new
    → Gains old new (λ q x. IsNumber (Some (statement.Equ name value)) q x)
number_gains name value None old new p h = absurd (cc)
number_gains name value (Some v) old new p h =
    gains_as old new _ _ (λ q x i. (value, ap (λ w. Some (statement.Equ w value)) (sym i.0), p ∙ ap Some (sym i.1))) (gains_name name v old new h)

equ_gains : (t : Option Statement) (old new : Names) → define_equ t old ≡ Ok new → Gains old new (λ q x. IsNumber t q x)
equ_gains None old new h = let same : old ≡ new = cc in gains_nothing old new _ (ap (λ m. m.named) (sym same))
equ_gains (Some (statement.Equ name value)) old new h = number_gains name value (plain value) old new refl h
equ_gains (Some (statement.Instruction i)) old new h = let same : old ≡ new = cc in gains_nothing old new _ (ap (λ m. m.named) (sym same))
equ_gains (Some (statement.Set value rd)) old new h = let same : old ≡ new = cc in gains_nothing old new _ (ap (λ m. m.named) (sym same))
equ_gains (Some (statement.Data w values)) old new h = let same : old ≡ new = cc in gains_nothing old new _ (ap (λ m. m.named) (sym same))
equ_gains (Some (statement.Ascii text)) old new h = let same : old ≡ new = cc in gains_nothing old new _ (ap (λ m. m.named) (sym same))
equ_gains (Some (statement.Motion m n)) old new h = let same : old ≡ new = cc in gains_nothing old new _ (ap (λ m. m.named) (sym same))

-- a name that got a number
abbrev Stands : Names → List ℕ → Expr → Type 0
Stands names name value = (v : ℤ) × (plain value ≡ Some v) × (defined names.named name ≡ Some v)

number_there : (name : List ℕ) (value : Expr) (o : Option ℤ) (old new : Names) → plain value ≡ o → define_number name o old ≡ Ok new → Stands new name value
number_there name value None old new p h = absurd (cc)
number_there name value (Some v) old new p h = (v, p, defined_there name v old new (define_is name v old new h))

pub equ_there : (t : Option Statement) (old new : Names) (name : List ℕ) (value : Expr) → define_equ t old ≡ Ok new → t ≡ Some (statement.Equ name value) → Stands new name value
equ_there t old new name value h e = number_there name value (plain value) old new refl (ap (λ x. define_equ x old) (sym e) ∙ h)

-- ---- all lines

grows : (limit n : ℕ) (symbols : Names) (at : ℕ) (ts : List (List ℕ)) (ps : List Place) (done : Names) (end : ℕ) → Chain limit n symbols at ts ps done end
    → (q : List ℕ) (x : ℤ) → defined symbols.named q ≡ Some x → defined done.named q ≡ Some x
grows limit n symbols at [] [] done end c q x h = ap (λ m. defined m.named q) (sym c.0) ∙ h
grows limit n symbols at [] (p ∷ ps) done end c q x h = absurd c
grows limit n symbols at (t ∷ ts) [] done end c q x h = absurd c
grows limit n symbols at (t ∷ ts) (p ∷ ps) done end c q x h =
    let a = c.2.admits in
    grows limit (n + 1) c.0 c.1 ts ps done end c.3 q x
    ((equ_gains p.stmt.statement a.labelled c.0 a.number).keeps q x ((label_gains p.stmt.label n at symbols a.labelled a.label).keeps q x h))

labels_stand : (limit n : ℕ) (symbols : Names) (at : ℕ) (ts : List (List ℕ)) (ps : List Place) (done : Names) (end : ℕ) → Chain limit n symbols at ts ps done end
    → (i : ℕ) (text : List ℕ) (s : Stmt) (name : List ℕ) → slice_get ts i ≡ Some text → reading text ≡ Ok s → s.label ≡ Some (label.Name name)
    → defined done.named name ≡ Some (pos (location_in ps end i))
labels_stand limit n symbols at [] [] done end c i text s name e r h = absurd (cc)
labels_stand limit n symbols at [] (p ∷ ps) done end c i text s name e r h = absurd c
labels_stand limit n symbols at (t ∷ ts) [] done end c i text s name e r h = absurd c
labels_stand limit n symbols at (t ∷ ts) (p ∷ ps) done end c zero text s name e r h =
    let a = c.2.admits in
    let read = c.2.read in
    let same : t ≡ text = cc in
    let stmt : p.stmt ≡ s = cc in
    let there = label_there p.stmt.label n at symbols a.labelled name a.label (ap (λ x. x.label) stmt ∙ h) in
    grows limit (n + 1) c.0 c.1 ts ps done end c.3 name (pos at) ((equ_gains p.stmt.statement a.labelled c.0 a.number).keeps name (pos at) there)
    ∙ ap (λ x. Some (pos x)) (sym c.2.stands)
labels_stand limit n symbols at (t ∷ ts) (p ∷ ps) done end c (suc i) text s name e r h = labels_stand limit (n + 1) c.0 c.1 ts ps done end c.3 i text s name e r h

numbers_stand : (limit n : ℕ) (symbols : Names) (at : ℕ) (ts : List (List ℕ)) (ps : List Place) (done : Names) (end : ℕ) → Chain limit n symbols at ts ps done end
    → (i : ℕ) (text : List ℕ) (s : Stmt) (name : List ℕ) (value : Expr) → slice_get ts i ≡ Some text → reading text ≡ Ok s → s.statement ≡ Some (statement.Equ name value)
    → Stands done name value
numbers_stand limit n symbols at [] [] done end c i text s name value e r h = absurd (cc)
numbers_stand limit n symbols at [] (p ∷ ps) done end c i text s name value e r h = absurd c
numbers_stand limit n symbols at (t ∷ ts) [] done end c i text s name value e r h = absurd c
numbers_stand limit n symbols at (t ∷ ts) (p ∷ ps) done end c zero text s name value e r h =
    let a = c.2.admits in
    let read = c.2.read in
    let same : t ≡ text = cc in
    let stmt : p.stmt ≡ s = cc in
    let there = equ_there p.stmt.statement a.labelled c.0 name value a.number (ap (λ x. x.statement) stmt ∙ h) in
    (there.0, there.1, grows limit (n + 1) c.0 c.1 ts ps done end c.3 name there.0 there.2)
numbers_stand limit n symbols at (t ∷ ts) (p ∷ ps) done end c (suc i) text s name value e r h = numbers_stand limit (n + 1) c.0 c.1 ts ps done end c.3 i text s name value e r h

-- where a name comes from, by the lines counted from 0
data Comes (ts : List (List ℕ)) (ps : List Place) (end : ℕ) (name : List ℕ) (v : ℤ) : Type 0 where
  by_label : (i : ℕ) (text : List ℕ) (s : Stmt) → slice_get ts i ≡ Some text → reading text ≡ Ok s → s.label ≡ Some (label.Name name) → v ≡ pos (location_in ps end i) → Comes ts ps end name v
  by_number : (i : ℕ) (text : List ℕ) (s : Stmt) (value : Expr) → slice_get ts i ≡ Some text → reading text ≡ Ok s → s.statement ≡ Some (statement.Equ name value) → plain value ≡ Some v
      → Comes ts ps end name v

later : (t : List ℕ) (ts : List (List ℕ)) (p : Place) (ps : List Place) (end : ℕ) (name : List ℕ) (v : ℤ) → Comes ts ps end name v → Comes (t ∷ ts) (p ∷ ps) end name v
later t ts p ps end name v (by_label i text s e r h k) = by_label (suc i) text s e r h k
later t ts p ps end name v (by_number i text s value e r h k) = by_number (suc i) text s value e r h k

comes_from : (limit n : ℕ) (symbols : Names) (at : ℕ) (ts : List (List ℕ)) (ps : List Place) (done : Names) (end : ℕ) → Chain limit n symbols at ts ps done end
    → (q : List ℕ) (x : ℤ) → defined done.named q ≡ Some x → (defined symbols.named q ≡ Some x) ⊎ Comes ts ps end q x
comes_from limit n symbols at [] [] done end c q x h = inl (ap (λ m. defined m.named q) c.0 ∙ h)
comes_from limit n symbols at [] (p ∷ ps) done end c q x h = absurd c
comes_from limit n symbols at (t ∷ ts) [] done end c q x h = absurd c
comes_from limit n symbols at (t ∷ ts) (p ∷ ps) done end c q x h = rest (comes_from limit (n + 1) c.0 c.1 ts ps done end c.3 q x h)
  where
    of_line : (defined c.2.admits.labelled.named q ≡ Some x) ⊎ IsNumber p.stmt.statement q x → (defined symbols.named q ≡ Some x) ⊎ Comes (t ∷ ts) (p ∷ ps) end q x
    of_line (inr i) = inr (by_number zero t p.stmt i.0 refl c.2.read i.1 i.2)
    of_line (inl i) = named ((label_gains p.stmt.label n at symbols c.2.admits.labelled c.2.admits.label).back q x i)
      where
        named : (defined symbols.named q ≡ Some x) ⊎ IsLabel p.stmt.label at q x → (defined symbols.named q ≡ Some x) ⊎ Comes (t ∷ ts) (p ∷ ps) end q x
        named (inl j) = inl j
        named (inr j) = inr (by_label zero t p.stmt refl c.2.read j.0 (j.1 ∙ ap pos (sym c.2.stands)))

    rest : (defined c.0.named q ≡ Some x) ⊎ Comes ts ps end q x → (defined symbols.named q ≡ Some x) ⊎ Comes (t ∷ ts) (p ∷ ps) end q x
    rest (inl i) = of_line ((equ_gains p.stmt.statement c.2.admits.labelled c.0 c.2.admits.number).back q x i)
    rest (inr i) = inr (later t ts p ps end q x i)

pub names_are_defined : NamesAreDefined
names_are_defined s l h = record { labels = labels; numbers = numbers; others = λ name v e. found name v (comes_from s.limit 1 no_names 0 s.lines l.places l.symbols l.at chain name v e) }
  where
    chain : Chain s.limit 1 no_names 0 s.lines l.places l.symbols l.at
    chain = lines_chain s l h

    labels : (i : ℕ) (stmt : Stmt) (name : List ℕ) → ReadsAs s i stmt → stmt.label ≡ Some (label.Name name) → defined l.symbols.named name ≡ Some (pos (location l i))
    labels zero stmt name r e = let none = r.1 in absurd (cc)
    labels (suc i) stmt name r e = labels_stand s.limit 1 no_names 0 s.lines l.places l.symbols l.at chain i r.0 stmt name r.1 r.2 e

    numbers : (i : ℕ) (stmt : Stmt) (name : List ℕ) (value : Expr) → ReadsAs s i stmt → stmt.statement ≡ Some (statement.Equ name value)
        → (v : ℤ) × (plain value ≡ Some v) × (defined l.symbols.named name ≡ Some v)
    numbers zero stmt name value r e = let none = r.1 in absurd (cc)
    numbers (suc i) stmt name value r e = numbers_stand s.limit 1 no_names 0 s.lines l.places l.symbols l.at chain i r.0 stmt name value r.1 r.2 e

    found : (name : List ℕ) (v : ℤ) → (None ≡ Some v) ⊎ Comes s.lines l.places l.at name v → StandsFor s l name v
    found name v (inl e) = absurd (cc)
    found name v (inr (by_label i text stmt e r k m)) = of_label (suc i) stmt (text, e, r) k m
    found name v (inr (by_number i text stmt value e r k m)) = of_number (suc i) stmt value (text, e, r) k m
