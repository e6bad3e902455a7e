-- Nothing is placed at the limit or above it.
use Rattle.std.proofs.Common.{◌≡◌, ◌∙◌, ℕ, ◌+◌, ◌≤◌, false, List, [], ◌∷◌, length, Result, Ok, Err, refl, sym, ap, subst, arith}
use Rattle.std.specs.Prelude.{◌||◌}
use Rattle.std.specs.List.{list_any}
use Rattle.std.specs.Result.{result_unwrap_or}
use Rattle.sv8_asm.specs.Names.{Names, no_names}
use Rattle.sv8_asm.specs.Size.{size}
use Rattle.sv8_asm.proofs.Common.{bytes_fit}
use Rattle.sv8_source.specs.declared.fault.SourceFault.{SourceFault}
use Rattle.sv8_source.specs.Layout.{Place}
use Rattle.sv8_source.specs.Image.{covers}
use Rattle.sv8_source.specs.Listing.{shown, shown_line, listing_of, listing}
use Rattle.sv8_source.specs.Text.{Assembly, assembled}
use Rattle.sv8_assembler_laws.specs.LayoutLaws.{NothingBeyond}
use Rattle.sv8_source.proofs.InPlace.{Coded, coded_of}
use Rattle.sv8_source.proofs.LaidLines.{Chain, lines_chain}
use Rattle.sv8_source.proofs.RisingImage.{not_below}
use Rattle.sv8_source.proofs.SourceLaws.{made_of}

none_covers : (limit a n line : ℕ) (symbols : Names) (at : ℕ) (ts : List (List ℕ)) (ps : List Place) (done : Names) (end : ℕ) (names : Names) (cs : List (List ℕ))
    → Chain limit n symbols at ts ps done end → Coded names line ps cs → limit ≤ a → list_any (λ x. covers x a) (shown ps cs) ≡ false
none_covers limit a n line symbols at ts [] done end names cs c b high = refl
none_covers limit a n line symbols at ts (p ∷ ps) done end names [] c b high = refl
none_covers limit a n line symbols at [] (p ∷ ps) done end names (k ∷ cs) c b high = absurd c
none_covers limit a n line symbols at (t ∷ ts) (p ∷ ps) done end names (k ∷ cs) c b high =
    let adm = c.2.admits in
    let sized : size p.stmt p.at ≡ Ok adm.count = subst (λ x. size p.stmt x ≡ Ok adm.count) (sym c.2.stands) adm.sized in
    let fits : length k ≤ adm.count = subst (λ r. length k ≤ result_unwrap_or r 0) sized (bytes_fit p.stmt line p.at names k (rw sized refl) b.0) in
    let low : p.at + length k ≤ a = omega (arith, fits, high, adm.room, c.2.stands) in
    ap (λ x. x || list_any (λ y. covers y a) (shown ps cs)) (not_below (shown_line p k) a low)
    ∙ none_covers limit a (n + 1) (line + 1) c.0 c.1 ts ps done end names cs c.3 b.1 high

pub nothing_beyond : NothingBeyond
unfolding listing
nothing_beyond s a high = go (assembled s) refl
  where
    go : (r : Result Assembly SourceFault) → assembled s ≡ r → list_any (λ x. covers x a) (listing_of r) ≡ false
    go (Err e) f = refl
    go (Ok m) f =
        let made = made_of s m f in
        let code = coded_of m.layout.symbols 1 m.layout.places [] m.code made.coded in
        subst (λ cs. list_any (λ x. covers x a) (shown m.layout.places cs) ≡ false) (sym code.joined)
        (none_covers s.limit a 1 1 no_names 0 s.lines m.layout.places m.layout.symbols m.layout.at m.layout.symbols code.rest (lines_chain s m.layout made.laid) code.coded high)
