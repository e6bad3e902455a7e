-- The code of places that are spaced rises.
use Rattle.std.proofs.Common.{◌≡◌, ◌∙◌, ℕ, ◌+◌, ◌≤◌, List, [], ◌∷◌, ◌++◌, length, Result, Ok, Err, refl, sym, arith, append_assoc, append-nil}
use Rattle.sv8_statements.specs.declared.fault.LineFault.{LineFault}
use Rattle.sv8_asm.specs.Code.{bytes}
use Rattle.sv8_asm.specs.Names.{Names}
use Rattle.sv8_asm.proofs.Common.{bytes_fit}
use Rattle.sv8_source.specs.Fault.{after_line}
use Rattle.sv8_source.specs.Layout.{Place, valued}
use Rattle.sv8_source.specs.Listing.{ListedLine, shown}
use Rattle.sv8_source.specs.Image.{Rising}
use Rattle.sv8_source.specs.Spaced.{Spaced, next_at}

earlier : (ls : List ListedLine) (a b : ℕ) → Rising b ls → a ≤ b → Rising a ls
earlier [] a b r h = tt
earlier (l ∷ ls) a b r h = (omega (arith, r.0, h), r.1)

-- the code behind what was there
pub record Tail (ps : List Place) (done code : List (List ℕ)) (from : ℕ) : Type 0 where
  pub rest : List (List ℕ)
  pub joined : code ≡ done ++ rest
  pub many : length rest ≡ length ps
  pub rises : Rising from (shown ps rest)

pub valued_tail : (symbols : Names) (n : ℕ) (ps : List Place) (done code : List (List ℕ)) (from end : ℕ) → valued symbols n ps done ≡ Ok code → Spaced from ps end → Tail ps done code from
valued_tail symbols n [] done code from end e s = record { rest = []; joined = let f : done ≡ code = cc in sym f ∙ sym (append-nil done); many = refl; rises = tt }
valued_tail symbols n (p ∷ ps) done code from end e s = go (λ b g. valued_tail symbols (n + 1) ps (done ++ b ∷ []) code (next_at p.stmt p.at) end g s.2) (bytes p.stmt n p.at symbols) refl e
  where
    go : ((b : List ℕ) → valued symbols (n + 1) ps (done ++ b ∷ []) ≡ Ok code → Tail ps (done ++ b ∷ []) code (next_at p.stmt p.at))
        → (r : Result (List ℕ) LineFault) → bytes p.stmt n p.at symbols ≡ r → after_line n r (λ b. valued symbols (n + 1) ps (done ++ b ∷ [])) ≡ Ok code → Tail (p ∷ ps) done code from
    go ih (Err f) g h = absurd (cc)
    go ih (Ok b) g h = let t = ih b h in record {
      rest = b ∷ t.rest;
      joined = t.joined ∙ append_assoc done (b ∷ []) t.rest;
      many = omega (arith, t.many);
      rises = (s.0, earlier (shown ps t.rest) (p.at + length b) (next_at p.stmt p.at) t.rises (let fits = bytes_fit p.stmt n p.at symbols b s.1 g in omega (arith, fits)));
    }

pub code_rises : (symbols : Names) (ps : List Place) (code : List (List ℕ)) (end : ℕ) → valued symbols 1 ps [] ≡ Ok code → Spaced 0 ps end → Rising 0 (shown ps code)
code_rises symbols ps code end e s = let t = valued_tail symbols 1 ps [] code 0 end e s in rw t.joined t.rises

pub code_length : (symbols : Names) (ps : List Place) (code : List (List ℕ)) (end : ℕ) → valued symbols 1 ps [] ≡ Ok code → Spaced 0 ps end → length code ≡ length ps
code_length symbols ps code end e s = let t = valued_tail symbols 1 ps [] code 0 end e s in rw t.joined t.many
