-- The names of a source are those that its lines define, in their order.
use Rattle.std.proofs.Common.{◌≡◌, ◌∙◌, ℕ, ℤ, zero, suc, ◌+◌, ◌⊎◌, inl, inr, List, [], ◌∷◌, Option, Some, None, Ok, refl, sym, ap, subst, arith}
use Rattle.std.specs.List.{slice_get, Contains}
use Rattle.std.specs.Option.{option_to_list}
use Rattle.std.proofs.lemmas.List.Elements.{Contains-append_left, Contains-append_right, Contains-append_cases}
use Rattle.std.proofs.lemmas.List.Sorted.{Contains-permutation, IsPermutation-sym}
use Rattle.sv8_statements.specs.declared.statement.Label.{Label}
use Rattle.sv8_statements.specs.declared.statement.Label.TheVariants as label
use Rattle.sv8_statements.specs.declared.statement.Statement.{Statement}
use Rattle.sv8_statements.specs.declared.statement.Statement.TheVariants as statement
use Rattle.sv8_statements.specs.declared.statement.Stmt.{Stmt}
use Rattle.sv8_statements.specs.declared.value.Expr.{Expr}
use Rattle.sv8_syntax.specs.Reading.{reading}
use Rattle.sv8_asm.specs.Names.{Names, no_names}
use Rattle.sv8_asm.specs.Size.{plain}
use Rattle.sv8_source.specs.Layout.{Place}
use Rattle.sv8_assembler_laws.specs.LayoutLaws.{ReadsAs, location_in, location}
use Rattle.sv8_assembler_laws.specs.NameLaws.{IsDefined, of_label, of_number, AreNames, NamesAreTold}
use Rattle.sv8_source.specs.Names.{Named, label_named, number_named, label_name, number_name, equ_name, line_names, defined_names, in_order, names_of, names}
use Rattle.sv8_source.specs.Text.{Text, Assembly, assembled}
use Rattle.sv8_source.proofs.LaidLines.{Chain, lines_chain}
use Rattle.sv8_assembler_laws.proofs.NamesStand.{equ_there}
use Rattle.sv8_source.proofs.NoTies.{source_has_no_ties}
use Rattle.sv8_source.proofs.SortedNames.{rises-in_order, IsPermutation-in_order}
use Rattle.sv8_source.proofs.SourceLaws.{made_of}

-- ---- one line

alone : (o : Option Named) (n : Named) → o ≡ Some n → Contains (option_to_list o) n
alone o n e = subst (λ p. Contains (option_to_list p) n) (sym e) (0, omega arith, refl)

is_alone : (o : Option Named) (n : Named) → Contains (option_to_list o) n → o ≡ Some n
is_alone None n c = absurd (omega (arith, c.1))
is_alone (Some m) n (zero, h, e) = ap Some e
is_alone (Some m) n (suc k, h, e) = absurd (omega (arith, h))

label_is : (l : Option Label) (at : ℕ) (n : Named) → label_name l at ≡ Some n → (name : List ℕ) × (l ≡ Some (label.Name name)) × (n ≡ label_named name at)
label_is None at n e = absurd (cc)
label_is (Some (label.Name name)) at n e = let same : label_named name at ≡ n = cc in (name, refl, sym same)
label_is (Some (label.Local d)) at n e = absurd (cc)

-- what `.equ` names
abbrev Numbers : Option Statement → Named → Type 0
Numbers t n = (name : List ℕ) × (value : Expr) × (v : ℤ) × (t ≡ Some (statement.Equ name value)) × (plain value ≡ Some v) × (n ≡ number_named name v)

number_is : (name : List ℕ) (value : Expr) (o : Option ℤ) (n : Named) → plain value ≡ o → number_name name o ≡ Some n → Numbers (Some (statement.Equ name value)) n
number_is name value None n p e = absurd (cc)
number_is name value (Some v) n p e = let same : number_named name v ≡ n = cc in (name, value, v, refl, p, sym same)

equ_is : (t : Option Statement) (n : Named) → equ_name t ≡ Some n → Numbers t n
equ_is None n e = absurd (cc)
equ_is (Some (statement.Equ name value)) n e = number_is name value (plain value) n refl e
equ_is (Some (statement.Instruction i)) n e = absurd (cc)
equ_is (Some (statement.Set value rd)) n e = absurd (cc)
equ_is (Some (statement.Data w values)) n e = absurd (cc)
equ_is (Some (statement.Ascii text)) n e = absurd (cc)
equ_is (Some (statement.Motion m k)) n e = absurd (cc)

equ_name_is : (t : Option Statement) (name : List ℕ) (value : Expr) (v : ℤ) → t ≡ Some (statement.Equ name value) → plain value ≡ Some v → equ_name t ≡ Some (number_named name v)
equ_name_is t name value v e p = ap equ_name e ∙ ap (number_name name) p

-- ---- all lines

labels_told : (limit n : ℕ) (symbols : Names) (at : ℕ) (ts : List (List ℕ)) (ps : List Place) (done : Names) (end : ℕ) → Chain limit n symbols at ts ps done end
    → (i : ℕ) (text : List ℕ) (s : Stmt) (name : List ℕ) → slice_get ts i ≡ Some text → reading text ≡ Ok s → s.label ≡ Some (label.Name name)
    → Contains (defined_names ps) (label_named name (location_in ps end i))
labels_told limit n symbols at [] [] done end c i text s name e r h = absurd (cc)
labels_told limit n symbols at [] (p ∷ ps) done end c i text s name e r h = absurd c
labels_told limit n symbols at (t ∷ ts) [] done end c i text s name e r h = absurd c
labels_told limit n symbols at (t ∷ ts) (p ∷ ps) done end c zero text s name e r h =
    let read = c.2.read in
    let same : t ≡ text = cc in
    let stmt : p.stmt ≡ s = cc in
    Contains-append_left (line_names p) (defined_names ps) _
    (Contains-append_left (option_to_list (label_name p.stmt.label p.at)) (option_to_list (equ_name p.stmt.statement)) _
    (alone (label_name p.stmt.label p.at) (label_named name p.at) (ap (λ l. label_name l p.at) (ap (λ x. x.label) stmt ∙ h))))
labels_told limit n symbols at (t ∷ ts) (p ∷ ps) done end c (suc i) text s name e r h =
    Contains-append_right (line_names p) (defined_names ps) _ (labels_told limit (n + 1) c.0 c.1 ts ps done end c.3 i text s name e r h)

-- a name of `.equ` with its number
abbrev Told : List Named → List ℕ → Expr → Type 0
Told ns name value = (v : ℤ) × (plain value ≡ Some v) × Contains ns (number_named name v)

numbers_told : (limit n : ℕ) (symbols : Names) (at : ℕ) (ts : List (List ℕ)) (ps : List Place) (done : Names) (end : ℕ) → Chain limit n symbols at ts ps done end
    → (i : ℕ) (text : List ℕ) (s : Stmt) (name : List ℕ) (value : Expr) → slice_get ts i ≡ Some text → reading text ≡ Ok s → s.statement ≡ Some (statement.Equ name value)
    → Told (defined_names ps) name value
numbers_told limit n symbols at [] [] done end c i text s name value e r h = absurd (cc)
numbers_told limit n symbols at [] (p ∷ ps) done end c i text s name value e r h = absurd c
numbers_told limit n symbols at (t ∷ ts) [] done end c i text s name value e r h = absurd c
numbers_told limit n symbols at (t ∷ ts) (p ∷ ps) done end c zero text s name value e r h =
    let a = c.2.admits in
    let read = c.2.read in
    let same : t ≡ text = cc in
    let stmt : p.stmt ≡ s = cc in
    let equ : p.stmt.statement ≡ Some (statement.Equ name value) = ap (λ x. x.statement) stmt ∙ h in
    let there = equ_there p.stmt.statement a.labelled c.0 name value a.number equ in (
      there.0,
      there.1,
      Contains-append_left (line_names p) (defined_names ps) (number_named name there.0)
          (Contains-append_right (option_to_list (label_name p.stmt.label p.at)) (option_to_list (equ_name p.stmt.statement)) (number_named name there.0)
          (alone (equ_name p.stmt.statement) (number_named name there.0) (equ_name_is p.stmt.statement name value there.0 equ there.1))),
    )
numbers_told limit n symbols at (t ∷ ts) (p ∷ ps) done end c (suc i) text s name value e r h =
    let there = numbers_told limit (n + 1) c.0 c.1 ts ps done end c.3 i text s name value e r h in
    (there.0, there.1, Contains-append_right (line_names p) (defined_names ps) (number_named name there.0) there.2)

-- where a name comes from, by the lines counted from 0
data Comes (ts : List (List ℕ)) (ps : List Place) (end : ℕ) (n : Named) : Type 0 where
  by_label : (i : ℕ) (text : List ℕ) (s : Stmt) (name : List ℕ) → slice_get ts i ≡ Some text → reading text ≡ Ok s → s.label ≡ Some (label.Name name) → n ≡ label_named name (location_in ps end i) → Comes ts ps end n
  by_number : (i : ℕ) (text : List ℕ) (s : Stmt) (name : List ℕ) (value : Expr) (v : ℤ) → slice_get ts i ≡ Some text → reading text ≡ Ok s → s.statement ≡ Some (statement.Equ name value) → plain value ≡ Some v
      → n ≡ number_named name v → Comes ts ps end n

later : (t : List ℕ) (ts : List (List ℕ)) (p : Place) (ps : List Place) (end : ℕ) (n : Named) → Comes ts ps end n → Comes (t ∷ ts) (p ∷ ps) end n
later t ts p ps end n (by_label i text s name e r h k) = by_label (suc i) text s name e r h k
later t ts p ps end n (by_number i text s name value v e r h k m) = by_number (suc i) text s name value v e r h k m

comes_from : (limit n : ℕ) (symbols : Names) (at : ℕ) (ts : List (List ℕ)) (ps : List Place) (done : Names) (end : ℕ) → Chain limit n symbols at ts ps done end
    → (m : Named) → Contains (defined_names ps) m → Comes ts ps end m
comes_from limit n symbols at [] [] done end c m h = absurd (omega (arith, h.1))
comes_from limit n symbols at [] (p ∷ ps) done end c m h = absurd c
comes_from limit n symbols at (t ∷ ts) [] done end c m h = absurd c
comes_from limit n symbols at (t ∷ ts) (p ∷ ps) done end c m h =
    rest (λ k. comes_from limit (n + 1) c.0 c.1 ts ps done end c.3 m k) (Contains-append_cases (line_names p) (defined_names ps) m h)
  where
    of_line : Contains (option_to_list (label_name p.stmt.label p.at)) m ⊎ Contains (option_to_list (equ_name p.stmt.statement)) m → Comes (t ∷ ts) (p ∷ ps) end m
    of_line (inl i) = let l = label_is p.stmt.label p.at m (is_alone _ m i) in by_label zero t p.stmt l.0 refl c.2.read l.1 l.2
    of_line (inr i) = let e = equ_is p.stmt.statement m (is_alone _ m i) in by_number zero t p.stmt e.0 e.1 e.2 refl c.2.read e.3 e.4 e.5

    rest : (Contains (defined_names ps) m → Comes ts ps end m) → Contains (line_names p) m ⊎ Contains (defined_names ps) m → Comes (t ∷ ts) (p ∷ ps) end m
    rest more (inl i) = of_line (Contains-append_cases (option_to_list (label_name p.stmt.label p.at)) (option_to_list (equ_name p.stmt.statement)) m i)
    rest more (inr i) = later t ts p ps end m (more i)

-- ---- in their order

are_names : (s : Text) (a : Assembly) → assembled s ≡ Ok a → AreNames s a.layout (in_order (defined_names a.layout.places))
are_names s a h = record { labels = labels; numbers = numbers; others = others; rise = rises-in_order ns (source_has_no_ties s a h) }
  where
    ns : List Named
    ns = defined_names a.layout.places

    chain : Chain s.limit 1 no_names 0 s.lines a.layout.places a.layout.symbols a.layout.at
    chain = lines_chain s a.layout (made_of s a h).laid

    moved : (n : Named) → Contains ns n → Contains (in_order ns) n
    moved n = Contains-permutation ns (in_order ns) n (IsPermutation-sym _ _ (IsPermutation-in_order ns))

    labels : (i : ℕ) (stmt : Stmt) (name : List ℕ) → ReadsAs s i stmt → stmt.label ≡ Some (label.Name name) → Contains (in_order ns) (label_named name (location a.layout i))
    labels zero stmt name r e = let none = r.1 in absurd (cc)
    labels (suc i) stmt name r e = moved _ (labels_told s.limit 1 no_names 0 s.lines a.layout.places a.layout.symbols a.layout.at chain i r.0 stmt name r.1 r.2 e)

    numbers : (i : ℕ) (stmt : Stmt) (name : List ℕ) (value : Expr) → ReadsAs s i stmt → stmt.statement ≡ Some (statement.Equ name value) → Told (in_order ns) name value
    numbers zero stmt name value r e = let none = r.1 in absurd (cc)
    numbers (suc i) stmt name value r e =
        let t = numbers_told s.limit 1 no_names 0 s.lines a.layout.places a.layout.symbols a.layout.at chain i r.0 stmt name value r.1 r.2 e in
        (t.0, t.1, moved _ t.2)

    found : (n : Named) → Comes s.lines a.layout.places a.layout.at n → IsDefined s a.layout n
    found n (by_label i text stmt name e r k m) = of_label (suc i) stmt name (text, e, r) k m
    found n (by_number i text stmt name value v e r k m q) = of_number (suc i) stmt name value v (text, e, r) k m q

    others : (n : Named) → Contains (in_order ns) n → IsDefined s a.layout n
    others n c = found n (comes_from s.limit 1 no_names 0 s.lines a.layout.places a.layout.symbols a.layout.at chain n (Contains-permutation (in_order ns) ns n (IsPermutation-in_order ns) c))

pub names_are_told : NamesAreTold
unfolding names
names_are_told s a h = subst (λ r. AreNames s a.layout (names_of r)) (sym h) (are_names s a h)
