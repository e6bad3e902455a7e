-- Lines in the place of others that change no name and move nothing.
use Rattle.std.proofs.Common.{◌≡◌, ◌∙◌, ℕ, zero, suc, ◌+◌, ◌-◌, ◌≤◌, List, [], ◌∷◌, ◌++◌, length, take, drop, Option, Some, None, Result, Ok, Err, false, refl, sym, ap, subst, add-one, append_assoc, append-nil, arith}
use Rattle.std.specs.List.{slice_get}
use Rattle.std.proofs.Math.ListN.{drop_of_length-le}
use Rattle.std.proofs.lemmas.List.{map-append, take-map, drop-map, take_all}
use Rattle.sv8_statements.specs.declared.fault.LineFault.{LineFault}
use Rattle.sv8_statements.specs.declared.statement.Statement.{Statement}
use Rattle.sv8_statements.specs.declared.statement.Statement.TheVariants as statement
use Rattle.sv8_statements.specs.declared.statement.Stmt.{Stmt}
use Rattle.sv8_syntax.specs.Reading.{reading}
use Rattle.sv8_asm.specs.Code.{bytes}
use Rattle.sv8_asm.specs.Names.{Names}
use Rattle.sv8_asm.specs.Size.{size}
use Rattle.sv8_source.specs.Edits.{with_line_between, Replaces, Continues}
use Rattle.sv8_source.specs.Fault.{after_line}
use Rattle.sv8_source.specs.Kept.{is_equ, Alike}
use Rattle.sv8_source.specs.Layout.{Layout, Place, start, on_ok, define_label, define_equ, moved, admitted, with_stmt, with_line, laid, valued}
use Rattle.sv8_source.specs.Text.{Assembly, assembled, place_texts, replaced_lines}
use Rattle.sv8_source.proofs.Again.{laid_append, then_laid}
use Rattle.sv8_source.proofs.SourceLaws.{made_of, both_made}

-- ---- one line

no_number : (s : Option Statement) (symbols : Names) → is_equ s ≡ false → define_equ s symbols ≡ Ok symbols
no_number None symbols h = refl
no_number (Some (statement.Instruction i)) symbols h = refl
no_number (Some (statement.Set value rd)) symbols h = refl
no_number (Some (statement.Data w values)) symbols h = refl
no_number (Some (statement.Ascii text)) symbols h = refl
no_number (Some (statement.Motion m n)) symbols h = refl
no_number (Some (statement.Equ name value)) symbols h = absurd (cc)

-- a line in the place of another one
abbrev Stands : ℕ → Place → Place → Type 0
Stands limit p q = (reading q.text ≡ Ok q.stmt) × (q.at ≡ p.at) × ((n : ℕ) (symbols : Names) → admitted limit n p.at q.stmt symbols ≡ admitted limit n p.at p.stmt symbols)

behind_label : (limit at : ℕ) (old new : Stmt) (r : Result Names LineFault) → Alike old new at
    → on_ok {B = Names × ℕ} r (λ labelled. on_ok (define_equ new.statement labelled) (λ known. on_ok (size new at) (λ count. on_ok (moved limit at count) (λ next. Ok (known, next)))))
    ≡ on_ok {B = Names × ℕ} r (λ labelled. on_ok (define_equ old.statement labelled) (λ known. on_ok (size old at) (λ count. on_ok (moved limit at count) (λ next. Ok (known, next)))))
behind_label limit at old new (Err e) a = refl
behind_label limit at old new (Ok symbols) a = rw (no_number new.statement symbols a.no_number, no_number old.statement symbols a.no_number_before, a.moves) refl

alike_admitted : (limit n at : ℕ) (old new : Stmt) (symbols : Names) → Alike old new at → admitted limit n at new symbols ≡ admitted limit n at old symbols
unfolding admitted size
alike_admitted limit n at old new symbols a = rw a.label (behind_label limit at old new (define_label old.label n at symbols) a)

-- ---- the layout pass

abbrev Revised : ℕ → List Place → List Place → Type 0
Revised limit [] [] = Unit {0}
Revised limit (p ∷ ps) (q ∷ qs) = Stands limit p q × Revised limit ps qs
Revised limit _ _ = ⊥

abbrev Reads : List Place → Type 0
Reads [] = Unit {0}
Reads (p ∷ ps) = (reading p.text ≡ Ok p.stmt) × Reads ps

pub record Step (limit n : ℕ) (text : List ℕ) (l next : Layout) : Type 0 where
  pub s : Stmt
  pub read : reading text ≡ Ok s
  pub admits : admitted limit n l.at s l.symbols ≡ Ok (next.symbols, next.at)
  pub places : next.places ≡ l.places ++ record { text = text; stmt = s; at = l.at } ∷ []

stmt_step : (limit n : ℕ) (text : List ℕ) (s : Stmt) (l next : Layout) → reading text ≡ Ok s → with_stmt limit n text s l ≡ Ok next → Step limit n text l next
unfolding with_stmt
stmt_step limit n text s l next f h = go (admitted limit n l.at s l.symbols) refl h
  where
    go : (r : Result (Names × ℕ) LineFault) → admitted limit n l.at s l.symbols ≡ r
        → on_ok r (λ (symbols, at). Ok (record { places = l.places ++ record { text = text; stmt = s; at = l.at } ∷ []; symbols = symbols; at = at })) ≡ Ok next → Step limit n text l next
    go (Err e) g k = absurd (cc)
    go (Ok (symbols, at)) g k =
        let same : record { places = l.places ++ record { text = text; stmt = s; at = l.at } ∷ []; symbols = symbols; at = at } ≡ next = cc in
        rw (← same) (record { s = s; read = f; admits = g; places = refl })

pub step_of : (limit n : ℕ) (text : List ℕ) (l next : Layout) → with_line limit n text l ≡ Ok next → Step limit n text l next
unfolding with_line
step_of limit n text l next h = go (reading text) refl h
  where
    go : (r : Result Stmt LineFault) → reading text ≡ r → on_ok r (λ s. with_stmt limit n text s l) ≡ Ok next → Step limit n text l next
    go (Err e) f k = absurd (cc)
    go (Ok s) f k = stmt_step limit n text s l next f k

-- the same step of another line
step_again : (limit n at : ℕ) (symbols known : Names) (next : ℕ) (q0 : List Place) (q : Place) → reading q.text ≡ Ok q.stmt → q.at ≡ at → admitted limit n at q.stmt symbols ≡ Ok (known, next)
    → with_line limit n q.text (record { places = q0; symbols = symbols; at = at }) ≡ Ok (record { places = q0 ++ q ∷ []; symbols = known; at = next })
unfolding with_line with_stmt
step_again limit n at symbols known next q0 q f g h = rw (f, h, ← g) refl

-- what lines make of a layout, and what other lines in their place make of one with the same names and location
record Follows (limit n : ℕ) (l done : Layout) : Type 0 where
  ps : List Place
  joined : done.places ≡ l.places ++ ps
  reads : Reads ps
  again : (q0 qs : List Place) → Revised limit ps qs
      → laid limit n (place_texts qs) (record { places = q0; symbols = l.symbols; at = l.at }) ≡ Ok (record { places = q0 ++ qs; symbols = done.symbols; at = done.at })

follows : (limit n : ℕ) (texts : List (List ℕ)) (l done : Layout) → laid limit n texts l ≡ Ok done → Follows limit n l done
follows limit n [] l done h =
    let e : l ≡ done = cc in
    rw (← e) (record { ps = []; joined = sym (append-nil l.places); reads = tt; again = nothing })
  where
    nothing : (q0 qs : List Place) → Revised limit [] qs → laid limit n (place_texts qs) (record { places = q0; symbols = l.symbols; at = l.at }) ≡ Ok (record { places = q0 ++ qs; symbols = l.symbols; at = l.at })
    nothing q0 [] r = rw (append-nil q0) refl
    nothing q0 (q ∷ qs) r = absurd r
follows limit n (text ∷ texts) l done h = go (λ next. follows limit (n + 1) texts next done) (with_line limit n text l) refl h
  where
    more : (next : Layout) → Step limit n text l next → Follows limit (n + 1) next done → Follows limit n l done
    more next t f = record {
      ps = record { text = text; stmt = t.s; at = l.at } ∷ f.ps;
      joined = f.joined ∙ rw t.places (append_assoc l.places (record { text = text; stmt = t.s; at = l.at } ∷ []) f.ps);
      reads = (t.read, f.reads);
      again = again;
    }
      where
        again : (q0 qs : List Place) → Revised limit (record { text = text; stmt = t.s; at = l.at } ∷ f.ps) qs
            → laid limit n (place_texts qs) (record { places = q0; symbols = l.symbols; at = l.at }) ≡ Ok (record { places = q0 ++ qs; symbols = done.symbols; at = done.at })
        again q0 [] r = absurd r
        again q0 (q ∷ qs) r =
            ap (λ x. after_line n x (λ m. laid limit (n + 1) (place_texts qs) m)) (step_again limit n l.at l.symbols next.symbols next.at q0 q r.0.0 r.0.1 (r.0.2 n l.symbols ∙ t.admits))
            ∙ f.again (q0 ++ q ∷ []) qs r.1
            ∙ ap (λ x. Ok (record { places = x; symbols = done.symbols; at = done.at })) (append_assoc q0 (q ∷ []) qs)

    go : ((next : Layout) → laid limit (n + 1) texts next ≡ Ok done → Follows limit (n + 1) next done)
        → (r : Result Layout LineFault) → with_line limit n text l ≡ r → after_line n r (λ next. laid limit (n + 1) texts next) ≡ Ok done → Follows limit n l done
    go ih (Err e) f k = absurd (cc)
    go ih (Ok next) f k = more next (step_of limit n text l next f) (ih next k)

-- ---- one line of many

itself : (limit : ℕ) (p : Place) → reading p.text ≡ Ok p.stmt → Stands limit p p
itself limit p h = (h, refl, λ n symbols. refl)

all_the_same : (limit : ℕ) (ps : List Place) → Reads ps → Revised limit ps ps
all_the_same limit [] h = tt
all_the_same limit (p ∷ ps) h = (itself limit p h.0, all_the_same limit ps h.1)

one_of : (limit : ℕ) (ps : List Place) (i : ℕ) (p q : Place) → slice_get ps i ≡ Some p → Reads ps → Stands limit p q → Revised limit ps (take i ps ++ q ∷ drop (suc i) ps)
one_of limit [] i p q e h s = absurd (cc)
one_of limit (p0 ∷ ps) zero p q e h s = let same : p0 ≡ p = cc in (rw same s, all_the_same limit ps h.1)
one_of limit (p0 ∷ ps) (suc i) p q e h s = (itself limit p0 h.0, one_of limit ps i p q e h.1 s)

-- ---- the value pass

abbrev pub Coded : Names → ℕ → List Place → List (List ℕ) → Type 0
Coded names n [] [] = Unit {0}
Coded names n (p ∷ ps) (c ∷ cs) = (bytes p.stmt n p.at names ≡ Ok c) × Coded names (n + 1) ps cs
Coded names n _ _ = ⊥

pub record Code (names : Names) (n : ℕ) (ps : List Place) (done code : List (List ℕ)) : Type 0 where
  pub rest : List (List ℕ)
  pub joined : code ≡ done ++ rest
  pub coded : Coded names n ps rest

pub coded_of : (names : Names) (n : ℕ) (ps : List Place) (done code : List (List ℕ)) → valued names n ps done ≡ Ok code → Code names n ps done code
coded_of names n [] done code h = let e : done ≡ code = cc in record { rest = []; joined = sym e ∙ sym (append-nil done); coded = tt }
coded_of names n (p ∷ ps) done code h = go (λ b. coded_of names (n + 1) ps (done ++ b ∷ []) code) (bytes p.stmt n p.at names) refl h
  where
    go : ((b : List ℕ) → valued names (n + 1) ps (done ++ b ∷ []) ≡ Ok code → Code names (n + 1) ps (done ++ b ∷ []) code)
        → (r : Result (List ℕ) LineFault) → bytes p.stmt n p.at names ≡ r → after_line n r (λ b. valued names (n + 1) ps (done ++ b ∷ [])) ≡ Ok code → Code names n (p ∷ ps) done code
    go ih (Err e) f k = absurd (cc)
    go ih (Ok b) f k = let t = ih b k in record { rest = b ∷ t.rest; joined = t.joined ∙ append_assoc done (b ∷ []) t.rest; coded = (f, t.coded) }

valued_of : (names : Names) (n : ℕ) (ps : List Place) (cs done : List (List ℕ)) → Coded names n ps cs → valued names n ps done ≡ Ok (done ++ cs)
valued_of names n [] [] done c = rw (append-nil done) refl
valued_of names n [] (b ∷ cs) done c = absurd c
valued_of names n (p ∷ ps) [] done c = absurd c
valued_of names n (p ∷ ps) (b ∷ cs) done c = rw c.0 (valued_of names (n + 1) ps cs (done ++ b ∷ []) c.1 ∙ ap Ok (append_assoc done (b ∷ []) cs))

one_coded : (names : Names) (n : ℕ) (ps : List Place) (cs : List (List ℕ)) (i : ℕ) (p q : Place) (b : List ℕ) → Coded names n ps cs → slice_get ps i ≡ Some p → bytes q.stmt (n + i) q.at names ≡ Ok b
    → Coded names n (take i ps ++ q ∷ drop (suc i) ps) (take i cs ++ b ∷ drop (suc i) cs)
one_coded names n [] cs i p q b c e h = absurd (cc)
one_coded names n (p0 ∷ ps) [] i p q b c e h = absurd c
one_coded names n (p0 ∷ ps) (c0 ∷ cs) zero p q b c e h = (subst (λ k. bytes q.stmt k q.at names ≡ Ok b) (omega arith) h, c.1)
one_coded names n (p0 ∷ ps) (c0 ∷ cs) (suc i) p q b c e h = (c.0, one_coded names (n + 1) ps cs i p q b c.1 e (subst (λ k. bytes q.stmt k q.at names ≡ Ok b) (omega arith) h))

push_coded : (names : Names) (n : ℕ) (ps : List Place) (cs : List (List ℕ)) (q : Place) (b : List ℕ) → Coded names n ps cs → bytes q.stmt (n + length ps) q.at names ≡ Ok b → Coded names n (ps ++ q ∷ []) (cs ++ b ∷ [])
push_coded names n [] [] q b c h = (subst (λ k. bytes q.stmt k q.at names ≡ Ok b) (omega arith) h, tt)
push_coded names n [] (c0 ∷ cs) q b c h = absurd c
push_coded names n (p0 ∷ ps) [] q b c h = absurd c
push_coded names n (p0 ∷ ps) (c0 ∷ cs) q b c h = (c.0, push_coded names (n + 1) ps cs q b c.1 (subst (λ k. bytes q.stmt k q.at names ≡ Ok b) (omega arith) h))

-- ---- both passes

-- the texts of places with one line among them
texts_between : (front back : ℕ) (q : Place) (ps : List Place) → place_texts (take front ps ++ q ∷ drop back ps) ≡ take front (place_texts ps) ++ (q.text ∷ []) ++ drop back (place_texts ps)
texts_between front back q ps =
    map-append (λ p. p.text) (take front ps) (q ∷ drop back ps)
    ∙ rw (take-map, drop-map) (sym (append_assoc (place_texts (take front ps)) (q.text ∷ []) (place_texts (drop back ps))))

replaced_in_place : (limit : ℕ) (a : Assembly) (i : ℕ) (p q : Place) (b : List ℕ) → assembled (record { limit = limit; lines = place_texts a.layout.places }) ≡ Ok a → slice_get a.layout.places i ≡ Some p
    → Replaces a.layout.symbols (1 + i) p q b → assembled (record { limit = limit; lines = place_texts (take i a.layout.places ++ q ∷ drop (suc i) a.layout.places) }) ≡ Ok (with_line_between i (suc i) q b a.layout.at a)
replaced_in_place limit a i p q b h e r =
    let m = made_of (record { limit = limit; lines = place_texts a.layout.places }) a h in
    let f = follows limit 1 (place_texts a.layout.places) start a.layout m.laid in
    let c = coded_of a.layout.symbols 1 a.layout.places [] a.code m.coded in
    let places : a.layout.places ≡ f.ps = f.joined in
    let code : a.code ≡ c.rest = c.joined in
    let stands : Stands limit p q = (r.reads, r.at, λ n symbols. alike_admitted limit n p.at p.stmt q.stmt symbols r.alike) in
    let reads : Reads a.layout.places = rw places f.reads in
    let again = f.again [] (take i a.layout.places ++ q ∷ drop (suc i) a.layout.places) (rw (← places) (one_of limit a.layout.places i p q e reads stands)) in
    let coded : Coded a.layout.symbols 1 a.layout.places a.code = rw code c.coded in
    both_made limit (place_texts (take i a.layout.places ++ q ∷ drop (suc i) a.layout.places)) _ _ again
    (valued_of a.layout.symbols 1 (take i a.layout.places ++ q ∷ drop (suc i) a.layout.places) (take i a.code ++ b ∷ drop (suc i) a.code) []
    (one_coded a.layout.symbols 1 a.layout.places a.code i p q b coded e r.coded))

pub in_place_made : (limit : ℕ) (a : Assembly) (i number : ℕ) (p q : Place) (b text : List ℕ) → assembled (record { limit = limit; lines = place_texts a.layout.places }) ≡ Ok a → slice_get a.layout.places i ≡ Some p
    → number ≡ i + 1 → q.text ≡ text → Replaces a.layout.symbols number p q b
    → assembled (record { limit = limit; lines = replaced_lines number number (text ∷ []) (place_texts a.layout.places) }) ≡ Ok (with_line_between i (i + 1) q b a.layout.at a)
in_place_made limit a i number p q b text h e k t r =
    let n : number ≡ suc i = k ∙ add-one i in
    let m : number ≡ 1 + i = omega arith in
    let j : number - 1 ≡ i = omega arith in
    rw (← t, j, n, add-one i) (ap (λ x. assembled (record { limit = limit; lines = x })) (sym (texts_between i (suc i) q a.layout.places)) ∙ replaced_in_place limit a i p q b h e (subst (λ x. Replaces a.layout.symbols x p q b) m r))

-- ---- one line behind all

quiet_admitted : (limit n m next : ℕ) (a : Assembly) (q : Place) (b : List ℕ) → Continues a.layout.symbols limit m a.layout.at q b next → admitted limit n a.layout.at q.stmt a.layout.symbols ≡ Ok (a.layout.symbols, next)
unfolding admitted size
quiet_admitted limit n m next a q b r = rw (r.no_label, no_number q.stmt.statement a.layout.symbols r.no_number, r.sized, r.fits) refl

push_made : (limit : ℕ) (a : Assembly) (q : Place) (b : List ℕ) (next : ℕ) → assembled (record { limit = limit; lines = place_texts a.layout.places }) ≡ Ok a
    → Continues a.layout.symbols limit (1 + length a.layout.places) a.layout.at q b next
    → assembled (record { limit = limit; lines = place_texts a.layout.places ++ q.text ∷ [] }) ≡ Ok (record { layout = record { places = a.layout.places ++ q ∷ []; symbols = a.layout.symbols; at = next }; code = a.code ++ b ∷ [] })
push_made limit a q b next h r =
    let m = made_of (record { limit = limit; lines = place_texts a.layout.places }) a h in
    let c = coded_of a.layout.symbols 1 a.layout.places [] a.code m.coded in
    let code : a.code ≡ c.rest = c.joined in
    let coded : Coded a.layout.symbols 1 a.layout.places a.code = rw code c.coded in
    let step = step_again limit (1 + length (place_texts a.layout.places)) a.layout.at a.layout.symbols a.layout.symbols next a.layout.places q r.reads r.at_end (quiet_admitted limit (1 + length (place_texts a.layout.places)) (1 + length a.layout.places) next a q b r) in
    let lines = laid_append limit 1 (place_texts a.layout.places) (q.text ∷ []) start
    ∙ ap (λ x. then_laid x (λ m. laid limit (1 + length (place_texts a.layout.places)) (q.text ∷ []) m)) m.laid
    ∙ ap (λ x. after_line (1 + length (place_texts a.layout.places)) x (λ m. Ok m)) step in
    both_made limit (place_texts a.layout.places ++ q.text ∷ []) _ _ lines
    (valued_of a.layout.symbols 1 (a.layout.places ++ q ∷ []) (a.code ++ b ∷ []) [] (push_coded a.layout.symbols 1 a.layout.places a.code q b coded (subst (λ x. bytes q.stmt (1 + length a.layout.places) x a.layout.symbols ≡ Ok b) (sym r.at_end) r.coded)))

pub behind_made : (limit : ℕ) (a : Assembly) (n number : ℕ) (q : Place) (b text : List ℕ) (next : ℕ) → assembled (record { limit = limit; lines = place_texts a.layout.places }) ≡ Ok a → length a.layout.places ≡ n
    → length a.code ≡ length a.layout.places → number ≡ n + 1 → q.text ≡ text → Continues a.layout.symbols limit number a.layout.at q b next
    → assembled (record { limit = limit; lines = place_texts a.layout.places ++ text ∷ [] }) ≡ Ok (with_line_between n n q b next a)
behind_made limit a n number q b text next h e many k t r =
    let m : number ≡ 1 + length a.layout.places = omega (arith, e, k) in
    let code : length a.code ≤ n = omega (arith, e, many) in
    rw (← t, take_all n a.layout.places (omega (arith, e)), drop_of_length-le a.layout.places {i = n} (omega (arith, e)), take_all n a.code code, drop_of_length-le a.code {i = n} code)
    (push_made limit a q b next h (subst (λ x. Continues a.layout.symbols limit x a.layout.at q b next) m r))
