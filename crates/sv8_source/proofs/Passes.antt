-- Both passes, by their results.
use Rattle.std.proofs.Common.{◌≡◌, ◌∙◌, ℕ, ◌+◌, ◌-◌, ◌≤◌, true, List, [], ◌∷◌, ◌++◌, length, length-append, length-take, length-drop, take, drop, Vec, vec_items, Ok, Err, sym, ap, append-nil, arith}
use Rattle.std.proofs.lemmas.Bool.Decides.{nat_tests}
use Rattle.std.proofs.Math.ListN.{drop_of_length-le}
use Rattle.std.proofs.lemmas.List.{length-map, take_all}
use Rattle.sv8_model.specs.declared.refused.Refused.{Refused}
use Rattle.sv8_model.specs.declared.refused.Refused.TheVariants.{OutOfMemory, By}
use Rattle.sv8_model.specs.Refused.{ByFault}
use Rattle.sv8_source.specs.declared.fault.SourceFault.{SourceFault}
use Rattle.sv8_source.specs.Layout.{Layout, Place, start, laid, valued}
use Rattle.sv8_source.specs.Text.{Text, Assembly, with_layout, both_passes, assembled, texts, place_texts, is_range, replaced_lines}
use Rattle.sv8_source.proofs.Kept.{laid-texts}
use Rattle.sv8_source.proofs.SourceLaws.{made_of}

pub laid_fault : (limit : ℕ) (lines : List (List ℕ)) (e : Refused SourceFault) → ByFault (λ f. laid limit 1 lines start ≡ Err f) e → ByFault (λ f. assembled (record { limit = limit; lines = lines }) ≡ Err f) e
unfolding assembled
laid_fault limit lines OutOfMemory h = tt
laid_fault limit lines (By f) h = ap both_passes h

pub code_fault : (limit : ℕ) (lines : List (List ℕ)) (l : Layout) (e : Refused SourceFault) → laid limit 1 lines start ≡ Ok l → ByFault (λ f. valued l.symbols 1 l.places [] ≡ Err f) e
    → ByFault (λ f. assembled (record { limit = limit; lines = lines }) ≡ Err f) e
unfolding assembled
code_fault limit lines l OutOfMemory g h = tt
code_fault limit lines l (By f) g h = ap both_passes g ∙ ap (with_layout l) h

pub passed : (limit : ℕ) (lines : List (List ℕ)) (l : Layout) (a : Assembly) → laid limit 1 lines start ≡ Ok l → a.layout ≡ l → valued l.symbols 1 l.places [] ≡ Ok a.code → assembled (record { limit = limit; lines = lines }) ≡ Ok a
unfolding assembled
passed limit lines l a g e h = ap both_passes g ∙ ap (with_layout l) h ∙ ap (λ x. Ok (record { layout = x; code = a.code })) (sym e)

pub laid_count : {A : Type 0} (limit : ℕ) (front back : List Place) (lines : List (Vec ℕ A)) (l : Layout) → laid limit 1 (place_texts front ++ texts lines ++ place_texts back) start ≡ Ok l → length l.places ≡ length front + length lines + length back
laid_count limit front back lines l h =
    let t = laid-texts limit 1 (place_texts front ++ texts lines ++ place_texts back) start l h in
    sym (length-map l.places (λ p. p.text)) ∙ ap length t
    ∙ length-append (place_texts front ++ texts lines) (place_texts back) ∙ ap (λ n. n + length (place_texts back)) (length-append (place_texts front) (texts lines))
    ∙ omega (arith, length-map front (λ p. p.text), length-map lines vec_items, length-map back (λ p. p.text))

-- ---- the lines of an edit

pub made_texts : (s : Text) (a : Assembly) → assembled s ≡ Ok a → place_texts a.layout.places ≡ s.lines
made_texts s a h = (made_of s a h).texts

pub replaced_count : (first last : ℕ) (lines : List (List ℕ)) (ps qs : List Place) → place_texts qs ≡ replaced_lines first last lines (place_texts ps) → is_range first last (length ps) ≡ true
    → length qs ≡ (first - 1) + length lines + (length ps - last)
replaced_count first last lines ps qs h r =
    let many : length (place_texts ps) ≡ length ps = length-map ps (λ p. p.text) in
    let low : first - 1 ≤ length ps = grind (arith, nat_tests) in
    sym (length-map qs (λ p. p.text)) ∙ ap length h
    ∙ length-append (take (first - 1) (place_texts ps) ++ lines) (drop last (place_texts ps)) ∙ ap (λ n. n + length (drop last (place_texts ps))) (length-append (take (first - 1) (place_texts ps)) lines)
    ∙ omega (arith, many, low, length-take (first - 1) (place_texts ps), length-drop last (place_texts ps))

pub few : {A : Type 0} (first last limit : ℕ) (lines : List (Vec ℕ A)) (ps : List Place) (a : Assembly) → assembled (record { limit = limit; lines = replaced_lines first last (texts lines) (place_texts ps) }) ≡ Ok a
    → is_range first last (length ps) ≡ true → (first - 1) + length lines + (length ps - last) ≤ 65536 → length a.layout.places ≤ 65536
few first last limit lines ps a h r room =
    let t = made_texts (record { limit = limit; lines = replaced_lines first last (texts lines) (place_texts ps) }) a h in
    omega (arith, room, replaced_count first last (texts lines) ps a.layout.places t r, length-map lines vec_items)

pub made_code : (limit : ℕ) (lines : List (List ℕ)) (a : Assembly) → assembled (record { limit = limit; lines = lines }) ≡ Ok a → valued a.layout.symbols 1 a.layout.places [] ≡ Ok a.code
made_code limit lines a h = (made_of (record { limit = limit; lines = lines }) a h).coded
