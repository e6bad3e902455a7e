-- What references to local labels stand for behind the layout pass.
use Rattle.std.proofs.Common.{◌≡◌, ◌≢◌, ◌∙◌, ℕ, ℤ, pos, zero, suc, ◌+◌, ◌-◌, ◌<◌, ◌≤◌, ◌==◌, Bool, true, false, cond, nat_le, nat_lt, List, [], ◌∷◌, ◌++◌, length, Option, Some, None, Ok, refl, sym, ap, subst, append_assoc, append-nil, get_or, arith, inl, inr}
use Rattle.std.specs.List.{slice_get}
use Rattle.std.proofs.lemmas.List.{length-set, get_or-set_same, get_or-set_other, get_or-replicate}
use Rattle.std.proofs.lemmas.Bool.{cases_eq}
use Rattle.std.proofs.lemmas.Bool.Decides.{nat_tests}
use Rattle.sv8_statements.specs.declared.statement.Label.{Label}
use Rattle.sv8_statements.specs.declared.statement.Label.TheVariants as label
use Rattle.sv8_statements.specs.declared.statement.Statement.{Statement}
use Rattle.sv8_statements.specs.declared.statement.Statement.TheVariants as statement
use Rattle.sv8_statements.specs.Names.{is_reference}
use Rattle.sv8_asm.specs.Names.{Names, Mark, no_names, with_mark, marks_of, mark, last_of, first_behind, Reference, forward, backward, reference_to, reference_of, get}
use Rattle.sv8_asm.specs.Size.{plain}
use Rattle.sv8_source.specs.Layout.{Layout, Place, define_label, define_number, define_equ}
use Rattle.sv8_source.specs.Text.{Text}
use Rattle.sv8_assembler_laws.specs.LayoutLaws.{location_in, is_local, reads_local, text_has, has_local, IsFirstBehind, IsLastUpTo, NearestLabelsCount}
use Rattle.sv8_source.proofs.LaidLines.{Chain, lines_chain}
use Rattle.sv8_source.proofs.LaidNames.{define_is}

-- ---- the marks of a digit

-- the lines of some places from number n on that have a digit
abbrev marks_in : ℕ → ℕ → List Place → List Mark
marks_in d n [] = []
marks_in d n (p ∷ ps) = cond (is_local d p.stmt.label) (mark n p.at ∷ marks_in d (n + 1) ps) (marks_in d (n + 1) ps)

-- the marks of a digit behind a label
record Marked (d n at : ℕ) (l : Option Label) (old new : Names) : Type 0 where
  marks : marks_of d new ≡ marks_of d old ++ cond (is_local d l) (mark n at ∷ []) []
  count : length new.marks ≡ length old.marks

unmarked : (d n at : ℕ) (l : Option Label) (old new : Names) → is_local d l ≡ false → new.marks ≡ old.marks → Marked d n at l old new
unmarked d n at l old new none e = record {
  marks = ap (λ ms. get_or ms d []) e ∙ sym (append-nil (marks_of d old)) ∙ ap (λ b. marks_of d old ++ cond b (mark n at ∷ []) []) (sym none);
  count = ap length e;
}

marked_local : (d n at e : ℕ) (old : Names) → d < length old.marks → Marked d n at (Some (label.Local e)) old (with_mark e n at old)
marked_local d n at e old room = elim (cases_eq d e) [ inl same ↦ here same | inr other ↦ there other ]
  where
    here : d ≡ e → Marked d n at (Some (label.Local e)) old (with_mark e n at old)
    here same =
        let test : (e == d) ≡ true = grind (arith, nat_tests, same) in
        record {
          marks = rw (test, same) (get_or-set_same old.marks e (marks_of e old ++ mark n at ∷ []) [] (omega (arith, room, same)));
          count = length-set old.marks e (marks_of e old ++ mark n at ∷ []);
        }

    there : d ≢ e → Marked d n at (Some (label.Local e)) old (with_mark e n at old)
    there other =
        let test : (e == d) ≡ false = grind (arith, nat_tests, other) in
        record {
          marks = rw test (get_or-set_other old.marks e d (marks_of e old ++ mark n at ∷ []) [] other ∙ sym (append-nil (marks_of d old)));
          count = length-set old.marks e (marks_of e old ++ mark n at ∷ []);
        }

label_marks : (d n at : ℕ) (l : Option Label) (old new : Names) → d < length old.marks → define_label l n at old ≡ Ok new → Marked d n at l old new
label_marks d n at None old new room h = let same : old ≡ new = cc in unmarked d n at None old new refl (ap (λ m. m.marks) (sym same))
label_marks d n at (Some (label.Name name)) old new room h = unmarked d n at (Some (label.Name name)) old new refl (ap (λ m. m.marks) (define_is name (pos at) old new h).made)
label_marks d n at (Some (label.Local e)) old new room h =
    let same : with_mark e n at old ≡ new = cc in subst (λ m. Marked d n at (Some (label.Local e)) old m) same (marked_local d n at e old room)

number_marks : (name : List ℕ) (o : Option ℤ) (old new : Names) → define_number name o old ≡ Ok new → new.marks ≡ old.marks
number_marks name None old new h = absurd (cc)
number_marks name (Some v) old new h = ap (λ m. m.marks) (define_is name v old new h).made

equ_marks : (t : Option Statement) (old new : Names) → define_equ t old ≡ Ok new → new.marks ≡ old.marks
equ_marks None old new h = let same : old ≡ new = cc in ap (λ m. m.marks) (sym same)
equ_marks (Some (statement.Equ name value)) old new h = number_marks name (plain value) old new h
equ_marks (Some (statement.Instruction i)) old new h = let same : old ≡ new = cc in ap (λ m. m.marks) (sym same)
equ_marks (Some (statement.Set value rd)) old new h = let same : old ≡ new = cc in ap (λ m. m.marks) (sym same)
equ_marks (Some (statement.Data w values)) old new h = let same : old ≡ new = cc in ap (λ m. m.marks) (sym same)
equ_marks (Some (statement.Ascii text)) old new h = let same : old ≡ new = cc in ap (λ m. m.marks) (sym same)
equ_marks (Some (statement.Motion m n)) old new h = let same : old ≡ new = cc in ap (λ m. m.marks) (sym same)

-- a place adds its mark in front of those of the places behind it
marks_more : (b : Bool) (n at : ℕ) (before behind : List Mark) → (before ++ cond b (mark n at ∷ []) []) ++ behind ≡ before ++ cond b (mark n at ∷ behind) behind
marks_more true n at before behind = append_assoc before (mark n at ∷ []) behind
marks_more false n at before behind = ap (λ ms. ms ++ behind) (append-nil before)

chain_marks : (d limit n : ℕ) (symbols : Names) (at : ℕ) (ts : List (List ℕ)) (ps : List Place) (done : Names) (end : ℕ) → Chain limit n symbols at ts ps done end → d < length symbols.marks
    → marks_of d done ≡ marks_of d symbols ++ marks_in d n ps
chain_marks d limit n symbols at [] [] done end c room = ap (marks_of d) (sym c.0) ∙ sym (append-nil (marks_of d symbols))
chain_marks d limit n symbols at [] (p ∷ ps) done end c room = absurd c
chain_marks d limit n symbols at (t ∷ ts) [] done end c room = absurd c
chain_marks d limit n symbols at (t ∷ ts) (p ∷ ps) done end c room =
    let a = c.2.admits in
    let one = label_marks d n at p.stmt.label symbols a.labelled room a.label in
    let same = equ_marks p.stmt.statement a.labelled c.0 a.number in
    let left : d < length c.0.marks = omega (arith, room, one.count, ap length same) in
    chain_marks d limit (n + 1) c.0 c.1 ts ps done end c.3 left
    ∙ ap (λ ms. ms ++ marks_in d (n + 1) ps) (ap (λ ms. get_or ms d []) same ∙ one.marks)
    ∙ marks_more (is_local d p.stmt.label) n at (marks_of d symbols) (marks_in d (n + 1) ps)
    ∙ ap (λ x. marks_of d symbols ++ cond (is_local d p.stmt.label) (mark n x ∷ marks_in d (n + 1) ps) (marks_in d (n + 1) ps)) (sym c.2.stands)

-- ---- the nearest place with a digit; places are counted from 0, and the first one is line n

abbrev place_has : ℕ → Option Place → Bool
place_has d None = false
place_has d (Some p) = is_local d p.stmt.label

abbrev has_in : ℕ → List Place → ℕ → Bool
has_in d ps j = place_has d (slice_get ps j)

data FirstFrom (d n line : ℕ) (ps : List Place) (end : ℕ) (o : Option ℤ) : Type 0 where
  none_first : o ≡ None → ((j : ℕ) → line < n + j → has_in d ps j ≡ false) → FirstFrom d n line ps end o
  first_at : (j : ℕ) → line < n + j → has_in d ps j ≡ true → o ≡ Some (pos (location_in ps end j)) → ((k : ℕ) → line < n + k → k < j → has_in d ps k ≡ false) → FirstFrom d n line ps end o

first_later : (d n line : ℕ) (p : Place) (ps : List Place) (end : ℕ) (o : Option ℤ) → (line < n → is_local d p.stmt.label ≡ false) → FirstFrom d (n + 1) line ps end o → FirstFrom d n line (p ∷ ps) end o
first_later d n line p ps end o skip (none_first e f) = none_first e none
  where
    none : (j : ℕ) → line < n + j → has_in d (p ∷ ps) j ≡ false
    none zero l = skip (omega (arith, l))
    none (suc j) l = f j (omega (arith, l))
first_later d n line p ps end o skip (first_at j l h e f) = first_at (suc j) (omega (arith, l)) h e none
  where
    none : (k : ℕ) → line < n + k → k < suc j → has_in d (p ∷ ps) k ≡ false
    none zero m q = skip (omega (arith, m))
    none (suc k) m q = f k (omega (arith, m)) (omega (arith, q))

first_in : (d n line : ℕ) (ps : List Place) (end : ℕ) → FirstFrom d n line ps end (first_behind line (marks_in d n ps))
unfolding first_behind
first_in d n line [] end = none_first refl none
  where
    none : (j : ℕ) → line < n + j → has_in d [] j ≡ false
    none zero l = refl
    none (suc j) l = refl
first_in d n line (p ∷ ps) end = by_case (is_local d p.stmt.label) refl (nat_lt line n) refl (first_in d (n + 1) line ps end)
  where
    by_case : (b : Bool) → is_local d p.stmt.label ≡ b → (c : Bool) → nat_lt line n ≡ c → FirstFrom d (n + 1) line ps end (first_behind line (marks_in d (n + 1) ps))
        → FirstFrom d n line (p ∷ ps) end (first_behind line (cond b (mark n p.at ∷ marks_in d (n + 1) ps) (marks_in d (n + 1) ps)))
    by_case false e c g rest = first_later d n line p ps end _ (λ l. e) rest
    by_case true e true g rest =
        let below : line < n + 0 = grind (arith, nat_tests, g) in
        first_at zero below e (ap (λ b. cond b (Some (pos p.at)) (first_behind line (marks_in d (n + 1) ps))) g) (λ k l m. absurd (omega (arith, m)))
    by_case true e false g rest =
        subst (FirstFrom d n line (p ∷ ps) end) (sym (ap (λ b. cond b (Some (pos p.at)) (first_behind line (marks_in d (n + 1) ps))) g))
        (first_later d n line p ps end _ (λ l. absurd (grind (arith, nat_tests, g, l))) rest)

data LastFrom (d n line : ℕ) (found : Option ℤ) (ps : List Place) (end : ℕ) (o : Option ℤ) : Type 0 where
  none_last : o ≡ found → ((j : ℕ) → n + j ≤ line → has_in d ps j ≡ false) → LastFrom d n line found ps end o
  last_at : (j : ℕ) → n + j ≤ line → has_in d ps j ≡ true → o ≡ Some (pos (location_in ps end j)) → ((k : ℕ) → j < k → n + k ≤ line → has_in d ps k ≡ false) → LastFrom d n line found ps end o

last_later : (d n line : ℕ) (found : Option ℤ) (p : Place) (ps : List Place) (end : ℕ) (o : Option ℤ) → (n ≤ line → is_local d p.stmt.label ≡ false) → LastFrom d (n + 1) line found ps end o
    → LastFrom d n line found (p ∷ ps) end o
last_later d n line found p ps end o skip (none_last e f) = none_last e none
  where
    none : (j : ℕ) → n + j ≤ line → has_in d (p ∷ ps) j ≡ false
    none zero l = skip (omega (arith, l))
    none (suc j) l = f j (omega (arith, l))
last_later d n line found p ps end o skip (last_at j l h e f) = last_at (suc j) (omega (arith, l)) h e none
  where
    none : (k : ℕ) → suc j < k → n + k ≤ line → has_in d (p ∷ ps) k ≡ false
    none zero m q = absurd (omega (arith, m))
    none (suc k) m q = f k (omega (arith, m)) (omega (arith, q))

last_here : (d n line : ℕ) (found : Option ℤ) (p : Place) (ps : List Place) (end : ℕ) (o : Option ℤ) → n ≤ line → is_local d p.stmt.label ≡ true → LastFrom d (n + 1) line (Some (pos p.at)) ps end o
    → LastFrom d n line found (p ∷ ps) end o
last_here d n line found p ps end o below has (none_last e f) = last_at zero (omega (arith, below)) has e none
  where
    none : (k : ℕ) → 0 < k → n + k ≤ line → has_in d (p ∷ ps) k ≡ false
    none zero m q = absurd (omega (arith, m))
    none (suc k) m q = f k (omega (arith, q))
last_here d n line found p ps end o below has (last_at j l h e f) = last_at (suc j) (omega (arith, l)) h e none
  where
    none : (k : ℕ) → suc j < k → n + k ≤ line → has_in d (p ∷ ps) k ≡ false
    none zero m q = absurd (omega (arith, m))
    none (suc k) m q = f k (omega (arith, m)) (omega (arith, q))

last_in : (d n line : ℕ) (found : Option ℤ) (ps : List Place) (end : ℕ) → LastFrom d n line found ps end (last_of found line (marks_in d n ps))
unfolding last_of
last_in d n line found [] end = none_last refl none
  where
    none : (j : ℕ) → n + j ≤ line → has_in d [] j ≡ false
    none zero l = refl
    none (suc j) l = refl
last_in d n line found (p ∷ ps) end = by_case (is_local d p.stmt.label) refl (nat_le n line) refl (λ x. last_in d (n + 1) line x ps end)
  where
    by_case : (b : Bool) → is_local d p.stmt.label ≡ b → (c : Bool) → nat_le n line ≡ c → ((x : Option ℤ) → LastFrom d (n + 1) line x ps end (last_of x line (marks_in d (n + 1) ps)))
        → LastFrom d n line found (p ∷ ps) end (last_of found line (cond b (mark n p.at ∷ marks_in d (n + 1) ps) (marks_in d (n + 1) ps)))
    by_case false e c g rest = last_later d n line found p ps end _ (λ l. e) (rest found)
    by_case true e true g rest =
        let below : n ≤ line = grind (arith, nat_tests, g) in
        subst (LastFrom d n line found (p ∷ ps) end) (sym (ap (λ b. last_of (cond b (Some (pos p.at)) found) line (marks_in d (n + 1) ps)) g))
        (last_here d n line found p ps end _ below e (rest (Some (pos p.at))))
    by_case true e false g rest =
        subst (LastFrom d n line found (p ∷ ps) end) (sym (ap (λ b. last_of (cond b (Some (pos p.at)) found) line (marks_in d (n + 1) ps)) g))
        (last_later d n line found p ps end _ (λ l. absurd (grind (arith, nat_tests, g, l))) (rest found))

-- ---- lines of the source

-- a line has a digit where its place has it
chain_has : (d limit n : ℕ) (symbols : Names) (at : ℕ) (ts : List (List ℕ)) (ps : List Place) (done : Names) (end : ℕ) → Chain limit n symbols at ts ps done end
    → (j : ℕ) → text_has d (slice_get ts j) ≡ has_in d ps j
chain_has d limit n symbols at [] [] done end c zero = refl
chain_has d limit n symbols at [] [] done end c (suc j) = refl
chain_has d limit n symbols at [] (p ∷ ps) done end c j = absurd c
chain_has d limit n symbols at (t ∷ ts) [] done end c j = absurd c
chain_has d limit n symbols at (t ∷ ts) (p ∷ ps) done end c zero = ap (reads_local d) c.2.read
chain_has d limit n symbols at (t ∷ ts) (p ∷ ps) done end c (suc j) = chain_has d limit (n + 1) c.0 c.1 ts ps done end c.3 j

first_line : (s : Text) (l : Layout) (d n : ℕ) (o : Option ℤ) → ((j : ℕ) → text_has d (slice_get s.lines j) ≡ has_in d l.places j) → FirstFrom d 1 n l.places l.at o → IsFirstBehind s l d n o
first_line s l d n o has (none_first e f) = subst (IsFirstBehind s l d n) (sym e) none
  where
    none : (m : ℕ) → n < m → has_local s d m ≡ false
    none zero q = refl
    none (suc j) q = has j ∙ f j (omega (arith, q))
first_line s l d n o has (first_at j q h e f) = subst (IsFirstBehind s l d n) (sym e) (suc j, omega (arith, q), has j ∙ h, refl, none)
  where
    none : (k : ℕ) → n < k → k < suc j → has_local s d k ≡ false
    none zero q r = refl
    none (suc k) q r = has k ∙ f k (omega (arith, q)) (omega (arith, r))

last_line : (s : Text) (l : Layout) (d n : ℕ) (o : Option ℤ) → ((j : ℕ) → text_has d (slice_get s.lines j) ≡ has_in d l.places j) → LastFrom d 1 n None l.places l.at o → IsLastUpTo s l d n o
last_line s l d n o has (none_last e f) = subst (IsLastUpTo s l d n) (sym e) none
  where
    none : (m : ℕ) → m ≤ n → has_local s d m ≡ false
    none zero q = refl
    none (suc j) q = has j ∙ f j (omega (arith, q))
last_line s l d n o has (last_at j q h e f) = subst (IsLastUpTo s l d n) (sym e) (suc j, omega (arith, q), has j ∙ h, refl, none)
  where
    none : (k : ℕ) → suc j < k → k ≤ n → has_local s d k ≡ false
    none zero q r = refl
    none (suc k) q r = has k ∙ f k (omega (arith, q)) (omega (arith, r))

-- ---- references

abbrev digit_in : Reference → ℕ
digit_in (forward d) = d
digit_in (backward d) = d

digit_of : (d side : ℕ) → digit_in (reference_to d side) ≡ d
digit_of d side = go (side == 98)
  where
    go : (b : Bool) → digit_in (cond b (backward d) (forward d)) ≡ d
    go true = refl
    go false = refl

-- a reference is to one of ten digits
reference_low : (text : List ℕ) (r : Reference) → reference_of text ≡ Some r → digit_in r < 10
reference_low [] r h = absurd (cc)
reference_low (c ∷ []) r h = absurd (cc)
reference_low (c ∷ side ∷ []) r h = go (is_reference (c ∷ side ∷ [])) refl h
  where
    go : (b : Bool) → is_reference (c ∷ side ∷ []) ≡ b → cond b (Some (reference_to (c - 48) side)) None ≡ Some r → digit_in r < 10
    go true e f =
        let same : reference_to (c - 48) side ≡ r = cc in
        let low : c - 48 < 10 = grind (arith, nat_tests, e) in
        let digit : digit_in r ≡ c - 48 = ap digit_in (sym same) ∙ digit_of (c - 48) side in
        omega (arith, low, digit)
    go false e f = absurd (cc)
reference_low (c ∷ side ∷ x ∷ text) r h = absurd (cc)

pub nearest_labels_count : NearestLabelsCount
unfolding get
nearest_labels_count s l text d n h = record { ahead = ahead; back = back }
  where
    chain : Chain s.limit 1 no_names 0 s.lines l.places l.symbols l.at
    chain = lines_chain s l h

    has : (j : ℕ) → text_has d (slice_get s.lines j) ≡ has_in d l.places j
    has j = chain_has d s.limit 1 no_names 0 s.lines l.places l.symbols l.at chain j

    marks : d < 10 → marks_of d l.symbols ≡ marks_in d 1 l.places
    marks low = chain_marks d s.limit 1 no_names 0 s.lines l.places l.symbols l.at chain low ∙ ap (λ ms. ms ++ marks_in d 1 l.places) (get_or-replicate 10 d [] [] low)

    ahead : reference_of text ≡ Some (forward d) → IsFirstBehind s l d n (get l.symbols text n)
    ahead e =
        let found : get l.symbols text n ≡ first_behind n (marks_in d 1 l.places) = rw e (ap (first_behind n) (marks (reference_low text (forward d) e))) in
        subst (IsFirstBehind s l d n) (sym found) (first_line s l d n _ has (first_in d 1 n l.places l.at))

    back : reference_of text ≡ Some (backward d) → IsLastUpTo s l d n (get l.symbols text n)
    back e =
        let found : get l.symbols text n ≡ last_of None n (marks_in d 1 l.places) = rw e (ap (last_of None n) (marks (reference_low text (backward d) e))) in
        subst (IsLastUpTo s l d n) (sym found) (last_line s l d n _ has (last_in d 1 n None l.places l.at))
