-- A name is defined once, so no two names of a source have the same place in their order.
use Rattle.std.proofs.Common.{◌≡◌, ◌∙◌, ℕ, ℤ, pos, ◌+◌, Bool, true, false, List, [], ◌∷◌, ◌++◌, Option, Some, None, Ok, Ordering, Less, Equal, Greater, nat_cmp, is_eq, refl, sym, ap, subst, append_assoc}
use Rattle.std.specs.List.{AllByRecursion}
use Rattle.std.specs.Option.{option_to_list}
use Rattle.std.specs.Ordering.{ordering_then}
use Rattle.std.specs.Cmp.Lexicographic.{slice_cmp, bytes_decides}
use Rattle.std.proofs.lemmas.Map.Text.{is_eq-slice_cmp}
use Rattle.sv8_statements.specs.declared.statement.Label.{Label}
use Rattle.sv8_statements.specs.declared.statement.Label.TheVariants as label
use Rattle.sv8_statements.specs.declared.statement.Statement.{Statement}
use Rattle.sv8_statements.specs.declared.statement.Statement.TheVariants as statement
use Rattle.sv8_asm.specs.Names.{Names, no_names, defined, with_mark}
use Rattle.sv8_asm.specs.Size.{plain}
use Rattle.sv8_model.specs.Words.{word_of_number}
use Rattle.sv8_source.specs.declared.names.NameKind.TheVariants as kind
use Rattle.sv8_source.specs.Layout.{Place, define, define_label, define_number, define_equ}
use Rattle.sv8_source.specs.Names.{Named, label_name, number_name, equ_name, defined_names, compare, HasNoTies}
use Rattle.sv8_source.specs.Text.{Text, Assembly, assembled}
use Rattle.sv8_source.proofs.LaidLines.{Chain, lines_chain}
use Rattle.sv8_source.proofs.LaidNames.{define_is, defined_keeps, defined_there}
use Rattle.sv8_source.proofs.SortedNames.{all_weaker}
use Rattle.sv8_source.proofs.SourceLaws.{made_of}

-- ---- names of the same place in the order are the same

second : (a b : Ordering) → is_eq (ordering_then a b) ≡ true → is_eq b ≡ true
second Less b e = absurd (cc)
second Equal b e = e
second Greater b e = absurd (cc)

same_name : (n m : Named) → is_eq (compare n m) ≡ true → n.name ≡ m.name
same_name n m e = (bytes_decides n.name m.name).0 (sym (is_eq-slice_cmp n.name m.name) ∙ second (nat_cmp n.value m.value) (slice_cmp nat_cmp n.name m.name) e)

-- a name that is defined is another one than a name that is not
differ : (named : List (List ℕ × ℤ)) (n m : Named) (x : ℤ) → defined named n.name ≡ Some x → defined named m.name ≡ None → is_eq (compare n m) ≡ false
differ named n m x h k = go (is_eq (compare n m)) refl
  where
    go : (b : Bool) → is_eq (compare n m) ≡ b → b ≡ false
    go false e = refl
    go true e = let there : Some x ≡ None = sym h ∙ ap (λ q. defined named q) (same_name n m e) ∙ k in absurd (cc)

-- ---- names that a table has not, no two of them the same

record Fresh (named : List (List ℕ × ℤ)) (ns : List Named) : Type 0 where
  absent : AllByRecursion (λ n. defined named n.name ≡ None) ns
  apart : HasNoTies ns

absent_before : (old new : List (List ℕ × ℤ)) → ((q : List ℕ) (x : ℤ) → defined old q ≡ Some x → defined new q ≡ Some x) → (q : List ℕ) → defined new q ≡ None → defined old q ≡ None
absent_before old new keeps q h = go (defined old q) refl
  where
    go : (o : Option ℤ) → defined old q ≡ o → o ≡ None
    go None e = refl
    go (Some x) e = let there : Some x ≡ None = sym (keeps q x e) ∙ h in absurd (cc)

fresh_with : (old new : Names) (n : Named) (value : ℤ) → define n.name value old ≡ Ok new → (ns : List Named) → Fresh new.named ns → Fresh old.named (n ∷ ns)
fresh_with old new n value h ns f =
    let d = define_is n.name value old new h in
    record {
      absent = (d.absent, all_weaker _ _ (λ m. absent_before old.named new.named (defined_keeps n.name value old new d) m.name) ns f.absent);
      apart = (all_weaker _ _ (λ m. differ new.named n m value (defined_there n.name value old new d)) ns f.absent, f.apart);
    }

-- ---- one line

fresh_label : (l : Option Label) (n at : ℕ) (old new : Names) → define_label l n at old ≡ Ok new → (ns : List Named) → Fresh new.named ns → Fresh old.named (option_to_list (label_name l at) ++ ns)
fresh_label None n at old new h ns f = let same : old ≡ new = cc in subst (λ s. Fresh s.named ns) (sym same) f
fresh_label (Some (label.Name name)) n at old new h ns f = fresh_with old new (record { value = at; kind = kind.Label; name = name }) (pos at) h ns f
fresh_label (Some (label.Local d)) n at old new h ns f = let same : with_mark d n at old ≡ new = cc in subst (λ s. Fresh s.named ns) (sym same) f

fresh_number : (name : List ℕ) (o : Option ℤ) (old new : Names) → define_number name o old ≡ Ok new → (ns : List Named) → Fresh new.named ns → Fresh old.named (option_to_list (number_name name o) ++ ns)
fresh_number name None old new h ns f = absurd (cc)
fresh_number name (Some v) old new h ns f = fresh_with old new (record { value = word_of_number v; kind = kind.Equ; name = name }) v h ns f

fresh_equ : (t : Option Statement) (old new : Names) → define_equ t old ≡ Ok new → (ns : List Named) → Fresh new.named ns → Fresh old.named (option_to_list (equ_name t) ++ ns)
fresh_equ None old new h ns f = let same : old ≡ new = cc in subst (λ s. Fresh s.named ns) (sym same) f
fresh_equ (Some (statement.Equ name value)) old new h ns f = fresh_number name (plain value) old new h ns f
fresh_equ (Some (statement.Instruction i)) old new h ns f = let same : old ≡ new = cc in subst (λ s. Fresh s.named ns) (sym same) f
fresh_equ (Some (statement.Set value rd)) old new h ns f = let same : old ≡ new = cc in subst (λ s. Fresh s.named ns) (sym same) f
fresh_equ (Some (statement.Data w values)) old new h ns f = let same : old ≡ new = cc in subst (λ s. Fresh s.named ns) (sym same) f
fresh_equ (Some (statement.Ascii text)) old new h ns f = let same : old ≡ new = cc in subst (λ s. Fresh s.named ns) (sym same) f
fresh_equ (Some (statement.Motion m n)) old new h ns f = let same : old ≡ new = cc in subst (λ s. Fresh s.named ns) (sym same) f

-- ---- all lines

fresh_lines : (limit n : ℕ) (symbols : Names) (at : ℕ) (ts : List (List ℕ)) (ps : List Place) (done : Names) (end : ℕ) → Chain limit n symbols at ts ps done end → Fresh symbols.named (defined_names ps)
fresh_lines limit n symbols at [] [] done end c = record { absent = tt; apart = tt }
fresh_lines limit n symbols at [] (p ∷ ps) done end c = absurd c
fresh_lines limit n symbols at (t ∷ ts) [] done end c = absurd c
fresh_lines limit n symbols at (t ∷ ts) (p ∷ ps) done end c =
    let a = c.2.admits in
    let label = option_to_list (label_name p.stmt.label p.at) in
    let number = option_to_list (equ_name p.stmt.statement) in
    let behind = fresh_equ p.stmt.statement a.labelled c.0 a.number (defined_names ps) (fresh_lines limit (n + 1) c.0 c.1 ts ps done end c.3) in
    let all = fresh_label p.stmt.label n at symbols a.labelled a.label (number ++ defined_names ps) behind in
    subst (Fresh symbols.named) (sym (append_assoc label number (defined_names ps)))
    (subst (λ l. Fresh symbols.named (option_to_list (label_name p.stmt.label l) ++ (number ++ defined_names ps))) (sym c.2.stands) all)

pub source_has_no_ties : (s : Text) (a : Assembly) → assembled s ≡ Ok a → HasNoTies (defined_names a.layout.places)
source_has_no_ties s a h = (fresh_lines s.limit 1 no_names 0 s.lines a.layout.places a.layout.symbols a.layout.at (lines_chain s a.layout (made_of s a h).laid)).apart
