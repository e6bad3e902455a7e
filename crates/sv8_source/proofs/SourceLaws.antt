-- What the two passes make of the lines of a source that assembles.
use Rattle.std.proofs.Common.{◌≡◌, ◌∙◌, ℕ, ◌+◌, ◌≤◌, Bool, true, false, cond, nat_lt, List, [], ◌∷◌, ◌++◌, length, map, None, Result, Ok, Err, IsOk, refl, sym, ap, arith}
use Rattle.sv8_statements.specs.declared.fault.LineFault.{LineFault}
use Rattle.sv8_statements.specs.declared.fault.LineFault.TheVariants.{ImageTooLarge}
use Rattle.sv8_statements.specs.declared.statement.Stmt.{Stmt}
use Rattle.sv8_syntax.specs.Reading.{reading}
use Rattle.sv8_asm.specs.Names.{Names}
use Rattle.sv8_asm.specs.Size.{size}
use Rattle.sv8_source.specs.declared.fault.SourceFault.{SourceFault}
use Rattle.sv8_source.specs.Fault.{after_line}
use Rattle.sv8_source.specs.Layout.{Layout, Place, start, on_ok, define_label, define_equ, moved, admitted, with_stmt, with_line, laid, valued}
use Rattle.sv8_source.specs.Spaced.{Spaced, next_at}
use Rattle.sv8_source.specs.Image.{Rising}
use Rattle.sv8_source.specs.Listing.{shown, shown_all, listing_of, listing}
use Rattle.sv8_source.specs.Text.{Text, Assembly, with_layout, both_passes, assembled, err_of, place_texts}
use Rattle.sv8_source.specs.Laws.{TextsAreLines, LinesRise}
use Rattle.sv8_source.proofs.Kept.{laid-texts}
use Rattle.sv8_source.proofs.SpacedPlaces.{Spaced_push}
use Rattle.sv8_source.proofs.RisingCode.{code_rises, code_length}

-- ---- the layout pass

record Admitted (s : Stmt) (at next : ℕ) : Type 0 where
  pub sized : IsOk (size s at)
  pub behind : next_at s at ≤ next

moved_behind : (limit at n next : ℕ) → moved limit at n ≡ Ok next → next ≡ at + n
moved_behind limit at n next h = go (nat_lt limit (at + n)) (moved limit at n) refl h where
  go : (b : Bool) (r : Result ℕ LineFault) → r ≡ cond b (Err ImageTooLarge) (Ok (at + n)) → r ≡ Ok next → next ≡ at + n
  go true r e f = absurd (cc)
  go false r e f = let g : at + n ≡ next = cc in sym g

after_size : (limit at : ℕ) (s : Stmt) (known : Names) (r : Result ℕ LineFault) (p : Names × ℕ) → size s at ≡ r
    → on_ok r (λ n. on_ok (moved limit at n) (λ next. Ok (known, next))) ≡ Ok p → Admitted s at p.1
after_size limit at s known (Err e) p f h = absurd (cc)
after_size limit at s known (Ok n) p f h = go (moved limit at n) refl h where
  go : (m : Result ℕ LineFault) → moved limit at n ≡ m → on_ok m (λ next. Ok (known, next)) ≡ Ok p → Admitted s at p.1
  go (Err e) g k = absurd (cc)
  go (Ok next) g k =
      let same : next ≡ p.1 = cc in
      let far : next ≡ at + n = moved_behind limit at n next g in
      record { sized = rw f refl; behind = rw f (omega (arith, same, far)) }

admits : (limit n at : ℕ) (s : Stmt) (symbols : Names) (p : Names × ℕ) → admitted limit n at s symbols ≡ Ok p → Admitted s at p.1
unfolding admitted
admits limit n at s symbols p h = labelled (define_label s.label n at symbols) h where
  known : (r : Result Names LineFault) → on_ok r (λ k. on_ok (size s at) (λ m. on_ok (moved limit at m) (λ next. Ok (k, next)))) ≡ Ok p → Admitted s at p.1
  known (Err e) k = absurd (cc)
  known (Ok names) k = after_size limit at s names (size s at) p refl k

  labelled : (r : Result Names LineFault) → on_ok r (λ l. on_ok (define_equ s.statement l) (λ k. on_ok (size s at) (λ m. on_ok (moved limit at m) (λ next. Ok (k, next))))) ≡ Ok p → Admitted s at p.1
  labelled (Err e) k = absurd (cc)
  labelled (Ok names) k = known (define_equ s.statement names) k

stmt_spaced : (limit n : ℕ) (text : List ℕ) (s : Stmt) (l next : Layout) → Spaced 0 l.places l.at → with_stmt limit n text s l ≡ Ok next → Spaced 0 next.places next.at
unfolding with_stmt
stmt_spaced limit n text s l next sp h = go (admitted limit n l.at s l.symbols) refl h where
  place : Place
  place = record { text = text; stmt = s; at = l.at }

  go : (r : Result (Names × ℕ) LineFault) → admitted limit n l.at s l.symbols ≡ r → on_ok r (λ (symbols, at). Ok (record { places = l.places ++ record { text = text; stmt = s; at = l.at } ∷ []; symbols = symbols; at = at })) ≡ Ok next → Spaced 0 next.places next.at
  go (Err e) f k = absurd (cc)
  go (Ok p) f k =
      let a = admits limit n l.at s l.symbols p f in
      let places : next.places ≡ l.places ++ record { text = text; stmt = s; at = l.at } ∷ [] = cc in
      let end : next.at ≡ p.1 = cc in
      rw (places, end) (Spaced_push 0 l.places (record { text = text; stmt = s; at = l.at }) p.1 sp a.sized a.behind)

line_spaced : (limit n : ℕ) (text : List ℕ) (l next : Layout) → Spaced 0 l.places l.at → with_line limit n text l ≡ Ok next → Spaced 0 next.places next.at
unfolding with_line
line_spaced limit n text l next sp h = go (reading text) h where
  go : (r : Result Stmt LineFault) → on_ok r (λ s. with_stmt limit n text s l) ≡ Ok next → Spaced 0 next.places next.at
  go (Err e) k = absurd (cc)
  go (Ok s) k = stmt_spaced limit n text s l next sp k

laid_spaced : (limit n : ℕ) (texts : List (List ℕ)) (l done : Layout) → Spaced 0 l.places l.at → laid limit n texts l ≡ Ok done → Spaced 0 done.places done.at
laid_spaced limit n [] l done sp h = let e : l ≡ done = cc in rw (← e) sp
laid_spaced limit n (text ∷ texts) l done sp h = go (λ next s k. laid_spaced limit (n + 1) texts next done s k) (with_line limit n text l) refl h where
  go : ((next : Layout) → Spaced 0 next.places next.at → laid limit (n + 1) texts next ≡ Ok done → Spaced 0 done.places done.at)
      → (r : Result Layout LineFault) → with_line limit n text l ≡ r → after_line n r (λ next. laid limit (n + 1) texts next) ≡ Ok done → Spaced 0 done.places done.at
  go ih (Err e) f k = absurd (cc)
  go ih (Ok next) f k = ih next (line_spaced limit n text l next sp f) k

-- ---- both passes

-- what the passes made of a source
pub record Made (s : Text) (a : Assembly) : Type 0 where
  pub spaced : Spaced 0 a.layout.places a.layout.at
  pub texts : place_texts a.layout.places ≡ s.lines
  pub laid : laid s.limit 1 s.lines start ≡ Ok a.layout
  pub coded : valued a.layout.symbols 1 a.layout.places [] ≡ Ok a.code

pub made_of : (s : Text) (a : Assembly) → assembled s ≡ Ok a → Made s a
unfolding assembled
made_of s a h = go (laid s.limit 1 s.lines start) refl h where
  coded : (l : Layout) (r : Result (List (List ℕ)) SourceFault) → valued l.symbols 1 l.places [] ≡ r → laid s.limit 1 s.lines start ≡ Ok l → with_layout l r ≡ Ok a → Made s a
  coded l (Err e) f g k = absurd (cc)
  coded l (Ok code) f g k =
      let e : record { layout = l; code = code } ≡ a = cc in
      rw (← e) (record { spaced = laid_spaced s.limit 1 s.lines start l (omega arith) g; texts = laid-texts s.limit 1 s.lines start l g; laid = g; coded = f })

  go : (r : Result Layout SourceFault) → laid s.limit 1 s.lines start ≡ r → both_passes r ≡ Ok a → Made s a
  go (Err e) g k = absurd (cc)
  go (Ok l) g k = coded l (valued l.symbols 1 l.places []) refl g k

shown_texts : (ps : List Place) (bs : List (List ℕ)) → length bs ≡ length ps → map (λ l. l.text) (shown ps bs) ≡ place_texts ps
shown_texts [] [] e = refl
shown_texts [] (b ∷ bs) e = absurd (omega arith)
shown_texts (p ∷ ps) [] e = absurd (omega arith)
shown_texts (p ∷ ps) (b ∷ bs) e = ap (λ ts. p.text ∷ ts) (shown_texts ps bs (omega arith))

pub texts_are_lines : TextsAreLines
unfolding listing
texts_are_lines s h = go (assembled s) refl h where
  go : (r : Result Assembly SourceFault) → assembled s ≡ r → err_of r ≡ None → map (λ l. l.text) (listing_of r) ≡ s.lines
  go (Err e) f k = absurd (cc)
  go (Ok a) f k =
      let m = made_of s a f in
      shown_texts a.layout.places a.code (code_length a.layout.symbols a.layout.places a.code a.layout.at m.coded m.spaced) ∙ m.texts

pub lines_rise : LinesRise
unfolding listing
lines_rise s = go (assembled s) refl where
  go : (r : Result Assembly SourceFault) → assembled s ≡ r → Rising 0 (listing_of r)
  go (Err e) f = tt
  go (Ok a) f = let m = made_of s a f in code_rises a.layout.symbols a.layout.places a.code a.layout.at m.coded m.spaced

-- what is made of a source rises, with bytes for each line
pub sound : (s : Text) (a : Assembly) → assembled s ≡ Ok a → Rising 0 (shown_all a) × (length a.code ≡ length a.layout.places)
sound s a h =
    let m = made_of s a h in
    (code_rises a.layout.symbols a.layout.places a.code a.layout.at m.coded m.spaced, code_length a.layout.symbols a.layout.places a.code a.layout.at m.coded m.spaced)

-- what both passes give is what is made
pub both_made : (limit : ℕ) (lines : List (List ℕ)) (l : Layout) (code : List (List ℕ)) → laid limit 1 lines start ≡ Ok l → valued l.symbols 1 l.places [] ≡ Ok code
    → assembled (record { limit = limit; lines = lines }) ≡ Ok (record { layout = l; code = code })
unfolding assembled
both_made limit lines l code h g = ap both_passes h ∙ ap (with_layout l) g
