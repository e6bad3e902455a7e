-- What the layout pass keeps of the lines.
use Rattle.std.proofs.Common.{◌≡◌, ◌∙◌, ℕ, ◌+◌, ◌-◌, take, drop, List, [], ◌∷◌, ◌++◌, Ok, Err, Result, sym, refl, append_assoc, append-nil}
use Rattle.std.proofs.lemmas.List.{map-append, take-map, drop-map}
use Rattle.sv8_statements.specs.declared.fault.LineFault.{LineFault}
use Rattle.sv8_statements.specs.declared.statement.Stmt.{Stmt}
use Rattle.sv8_syntax.specs.Reading.{reading}
use Rattle.sv8_asm.specs.Names.{Names}
use Rattle.sv8_source.specs.Fault.{after_line}
use Rattle.sv8_source.specs.Layout.{Layout, Place, with_line, with_stmt, admitted, laid, on_ok}
use Rattle.sv8_source.specs.Text.{place_texts, replaced_lines}

pub with_stmt-texts : (limit n : ℕ) (text : List ℕ) (s : Stmt) (l next : Layout) → with_stmt limit n text s l ≡ Ok next → place_texts next.places ≡ place_texts l.places ++ text ∷ []
unfolding with_stmt
with_stmt-texts limit n text s l next = go (admitted limit n l.at s l.symbols)
  where
    go : (r : Result (Names × ℕ) LineFault) → on_ok r (λ (symbols, at). Ok (record { places = l.places ++ record { text = text; stmt = s; at = l.at } ∷ []; symbols = symbols; at = at })) ≡ Ok next → place_texts next.places ≡ place_texts l.places ++ text ∷ []
    go (Ok p) h = let e : next.places ≡ l.places ++ record { text = text; stmt = s; at = l.at } ∷ [] = cc in rw e (map-append (λ q. q.text) l.places (record { text = text; stmt = s; at = l.at } ∷ []))
    go (Err e) h = cc

pub with_line-texts : (limit n : ℕ) (text : List ℕ) (l next : Layout) → with_line limit n text l ≡ Ok next → place_texts next.places ≡ place_texts l.places ++ text ∷ []
unfolding with_line
with_line-texts limit n text l next = go (reading text)
  where
    go : (r : Result Stmt LineFault) → on_ok r (λ s. with_stmt limit n text s l) ≡ Ok next → place_texts next.places ≡ place_texts l.places ++ text ∷ []
    go (Ok s) h = with_stmt-texts limit n text s l next h
    go (Err e) h = cc

-- the texts of the places are the lines
pub laid-texts : (limit n : ℕ) (lines : List (List ℕ)) (l done : Layout) → laid limit n lines l ≡ Ok done → place_texts done.places ≡ place_texts l.places ++ lines
laid-texts limit n [] l done h = let e : l ≡ done = cc in rw (← e) (sym (append-nil (place_texts l.places)))
laid-texts limit n (text ∷ lines) l done h = go (λ next. laid-texts limit (n + 1) lines next done) (with_line limit n text l) refl h
  where
    go : ((next : Layout) → laid limit (n + 1) lines next ≡ Ok done → place_texts done.places ≡ place_texts next.places ++ lines)
        → (r : Result Layout LineFault) → with_line limit n text l ≡ r → after_line n r (λ next. laid limit (n + 1) lines next) ≡ Ok done → place_texts done.places ≡ place_texts l.places ++ text ∷ lines
    go ih (Ok next) e h = ih next h ∙ rw (with_line-texts limit n text l next e) (append_assoc (place_texts l.places) (text ∷ []) lines)
    go ih (Err f) e h = cc

-- an edit of the texts of places
pub replaced_places : (first last : ℕ) (lines : List (List ℕ)) (ps : List Place) → replaced_lines first last lines (place_texts ps) ≡ place_texts (take (first - 1) ps) ++ lines ++ place_texts (drop last ps)
replaced_places first last lines ps = rw (take-map, drop-map)
