-- The layout pass line by line.
use Rattle.std.proofs.Common.{◌≡◌, ◌∙◌, ℕ, ◌+◌, ◌≤◌, Bool, true, false, cond, nat_lt, List, [], ◌∷◌, ◌++◌, Result, Ok, Err, refl, sym, ap, subst, append_assoc, append-nil, arith}
use Rattle.std.proofs.lemmas.Bool.Decides.{nat_tests}
use Rattle.sv8_statements.specs.declared.fault.LineFault.{LineFault}
use Rattle.sv8_statements.specs.declared.fault.LineFault.TheVariants.{ImageTooLarge}
use Rattle.sv8_statements.specs.declared.statement.Stmt.{Stmt}
use Rattle.sv8_syntax.specs.Reading.{reading}
use Rattle.sv8_asm.specs.Names.{Names, no_names}
use Rattle.sv8_asm.specs.Size.{size}
use Rattle.sv8_source.specs.Fault.{after_line}
use Rattle.sv8_source.specs.Layout.{Layout, Place, start, on_ok, define_label, define_equ, moved, admitted, with_line, laid}
use Rattle.sv8_source.specs.Text.{Text}
use Rattle.sv8_source.proofs.InPlace.{Step, step_of}

-- ---- one line

moved_is : (limit at n next : ℕ) → moved limit at n ≡ Ok next → (next ≡ at + n) × (at + n ≤ limit)
moved_is limit at n next h = go (nat_lt limit (at + n)) refl (moved limit at n) refl h
  where
    go : (b : Bool) → nat_lt limit (at + n) ≡ b → (r : Result ℕ LineFault) → r ≡ cond b (Err ImageTooLarge) (Ok (at + n)) → r ≡ Ok next → (next ≡ at + n) × (at + n ≤ limit)
    go true t r e f = absurd (cc)
    go false t r e f = let g : at + n ≡ next = cc in (sym g, grind (arith, nat_tests, t))

-- what is looked for in a statement as line n has been found
pub record Admission (limit n at : ℕ) (s : Stmt) (symbols known : Names) (next : ℕ) : Type 0 where
  pub labelled : Names
  pub label : define_label s.label n at symbols ≡ Ok labelled
  pub number : define_equ s.statement labelled ≡ Ok known
  pub count : ℕ
  pub sized : size s at ≡ Ok count
  pub behind : next ≡ at + count
  pub room : at + count ≤ limit

admission : (limit n at : ℕ) (s : Stmt) (symbols : Names) (p : Names × ℕ) → admitted limit n at s symbols ≡ Ok p → Admission limit n at s symbols p.0 p.1
unfolding admitted
admission limit n at s symbols p h = labels (define_label s.label n at symbols) refl h
  where
    ends : (known labelled : Names) (count : ℕ) (r : Result ℕ LineFault) → define_label s.label n at symbols ≡ Ok labelled → define_equ s.statement labelled ≡ Ok known → size s at ≡ Ok count
        → moved limit at count ≡ r → on_ok {B = Names × ℕ} r (λ next. Ok (known, next)) ≡ Ok p → Admission limit n at s symbols p.0 p.1
    ends known labelled count (Err e) a b c d i = absurd (cc)
    ends known labelled count (Ok next) a b c d i =
        let names : known ≡ p.0 = cc in
        let place : next ≡ p.1 = cc in
        let m = moved_is limit at count next d in
        record { labelled = labelled; label = a; number = b ∙ ap Ok names; count = count; sized = c; behind = sym place ∙ m.0; room = m.1 }

    sizes : (known labelled : Names) (r : Result ℕ LineFault) → define_label s.label n at symbols ≡ Ok labelled → define_equ s.statement labelled ≡ Ok known → size s at ≡ r
        → on_ok {B = Names × ℕ} r (λ count. on_ok (moved limit at count) (λ next. Ok (known, next))) ≡ Ok p → Admission limit n at s symbols p.0 p.1
    sizes known labelled (Err e) a b c i = absurd (cc)
    sizes known labelled (Ok count) a b c i = ends known labelled count (moved limit at count) a b c refl i

    numbers : (labelled : Names) (r : Result Names LineFault) → define_label s.label n at symbols ≡ Ok labelled → define_equ s.statement labelled ≡ r
        → on_ok {B = Names × ℕ} r (λ known. on_ok (size s at) (λ count. on_ok (moved limit at count) (λ next. Ok (known, next)))) ≡ Ok p → Admission limit n at s symbols p.0 p.1
    numbers labelled (Err e) a b i = absurd (cc)
    numbers labelled (Ok known) a b i = sizes known labelled (size s at) a b refl i

    labels : (r : Result Names LineFault) → define_label s.label n at symbols ≡ r
        → on_ok {B = Names × ℕ} r (λ labelled. on_ok (define_equ s.statement labelled) (λ known. on_ok (size s at) (λ count. on_ok (moved limit at count) (λ next. Ok (known, next))))) ≡ Ok p
        → Admission limit n at s symbols p.0 p.1
    labels (Err e) a i = absurd (cc)
    labels (Ok labelled) a i = numbers labelled (define_equ s.statement labelled) a refl i

-- line n, of text, is a place
pub record Link (limit n at : ℕ) (symbols : Names) (text : List ℕ) (p : Place) (known : Names) (next : ℕ) : Type 0 where
  pub read : reading text ≡ Ok p.stmt
  pub stands : p.at ≡ at
  pub admits : Admission limit n at p.stmt symbols known next

-- lines from number n on are places, from some names and a location on up to others
abbrev pub Chain : ℕ → ℕ → Names → ℕ → List (List ℕ) → List Place → Names → ℕ → Type 0
Chain limit n symbols at [] [] done end = (symbols ≡ done) × (at ≡ end)
Chain limit n symbols at (t ∷ ts) (p ∷ ps) done end = (known : Names) × (next : ℕ) × Link limit n at symbols t p known next × Chain limit (n + 1) known next ts ps done end
Chain limit n symbols at ts ps done end = ⊥

record Chained (limit n : ℕ) (texts : List (List ℕ)) (l done : Layout) : Type 0 where
  ps : List Place
  joined : done.places ≡ l.places ++ ps
  chain : Chain limit n l.symbols l.at texts ps done.symbols done.at

laid_chain : (limit n : ℕ) (texts : List (List ℕ)) (l done : Layout) → laid limit n texts l ≡ Ok done → Chained limit n texts l done
laid_chain limit n [] l done h = let e : l ≡ done = cc in rw (← e) (record { ps = []; joined = sym (append-nil l.places); chain = (refl, refl) })
laid_chain limit n (text ∷ texts) l done h = go (λ next. laid_chain limit (n + 1) texts next done) (with_line limit n text l) refl h
  where
    more : (next : Layout) → Step limit n text l next → Chained limit (n + 1) texts next done → Chained limit n (text ∷ texts) l done
    more next t f = record {
      ps = record { text = text; stmt = t.s; at = l.at } ∷ f.ps;
      joined = f.joined ∙ rw t.places (append_assoc l.places (record { text = text; stmt = t.s; at = l.at } ∷ []) f.ps);
      chain = (next.symbols, next.at, record { read = t.read; stands = refl; admits = admission limit n l.at t.s l.symbols (next.symbols, next.at) t.admits }, f.chain);
    }

    go : ((next : Layout) → laid limit (n + 1) texts next ≡ Ok done → Chained limit (n + 1) texts next done)
        → (r : Result Layout LineFault) → with_line limit n text l ≡ r → after_line n r (λ next. laid limit (n + 1) texts next) ≡ Ok done → Chained limit n (text ∷ texts) l done
    go ih (Err e) f k = absurd (cc)
    go ih (Ok next) f k = more next (step_of limit n text l next f) (ih next k)

-- the lines of a source whose layout has no fault
pub lines_chain : (s : Text) (l : Layout) → laid s.limit 1 s.lines start ≡ Ok l → Chain s.limit 1 no_names 0 s.lines l.places l.symbols l.at
lines_chain s l h = let t = laid_chain s.limit 1 s.lines start l h in subst (λ ps. Chain s.limit 1 no_names 0 s.lines ps l.symbols l.at) (sym t.joined) t.chain
