use Rattle.std.proofs.Common.{◌≡◌, rules, ℕ, subst, arith, ◌+◌, ◌-◌, Some, sym, [], ◌∷◌}
use Rattle.std.specs.List.{slice_get}
use Rattle.sv8_asm.specs.Names.{Names}
use Rattle.sv8_source.specs.Edits.{Sound, Replaces, with_line_between}
use Rattle.sv8_source.specs.Text.{place_texts, replaced_lines}
use Rattle.sv8_source.proofs.InPlace.{in_place_made}
use Rattle.sv8_source.proofs.EditedWords.{in_place_within}
use Rattle.sv8_source.proofs.SourceLaws.{sound}
use Rattle.sv8_source.proofs.edited.in_place.Goals as goal

pub with_line-requires-clause-sound : goal.with_line-requires-clause-sound
with_line-requires-clause-sound c =
    let index : slice_get c.args.old.now.layout.places (c.args.number - 1) ≡ Some c.place_in-place.result.now = (search rules) in
    let count : c.args.number ≡ (c.args.number - 1) + 1 = omega (arith, c.requires.low) in
    let made : Replaces c.in_ok-names.names.now c.args.number c.place_in-place.result.now c.new-line.result c.in_ok-bytes.bytes.items = (search rules) in
    let fits : Replaces c.args.old.now.layout.symbols c.args.number c.place_in-place.result.now c.new-line.result c.in_ok-bytes.bytes.items = subst (λ (names : Names). Replaces names c.args.number c.place_in-place.result.now c.new-line.result c.in_ok-bytes.bytes.items) c.in_ok-names.ensures made in
    subst (λ (x : ℕ). Sound (with_line_between (c.args.number - 1) (c.args.number - 1 + 1) c.new-line.result c.in_ok-bytes.bytes.items x c.args.old.now)) (sym c.at-5.ensures) (sound (record { limit = c.args.limit; lines = replaced_lines c.args.number c.args.number (c.args.text.now ∷ []) (place_texts c.args.old.now.layout.places) }) _
    (in_place_made c.args.limit c.args.old.now (c.args.number - 1) c.args.number c.place_in-place.result.now c.new-line.result c.in_ok-bytes.bytes.items c.args.text.now c.requires.made index count (search rules) fits))

pub returns-clause-made : goal.returns-clause-made
returns-clause-made c =
    let index : slice_get c.args.old.now.layout.places (c.args.number - 1) ≡ Some c.place_in-place.result.now = (search rules) in
    let count : c.args.number ≡ (c.args.number - 1) + 1 = omega (arith, c.requires.low) in
    let made : Replaces c.in_ok-names.names.now c.args.number c.place_in-place.result.now c.new-line.result c.in_ok-bytes.bytes.items = (search rules) in
    let fits : Replaces c.args.old.now.layout.symbols c.args.number c.place_in-place.result.now c.new-line.result c.in_ok-bytes.bytes.items = subst (λ (names : Names). Replaces names c.args.number c.place_in-place.result.now c.new-line.result c.in_ok-bytes.bytes.items) c.in_ok-names.ensures made in
    rw (c.in_ok-parts.ensures, c.at-5.ensures) (in_place_made c.args.limit c.args.old.now (c.args.number - 1) c.args.number c.place_in-place.result.now c.new-line.result c.in_ok-bytes.bytes.items c.args.text.now c.requires.made index count (search rules) fits)

pub returns-clause-within : goal.returns-clause-within
returns-clause-within c =
    rw c.in_ok-parts.ensures (in_place_within c.args.limit (c.args.number - 1) c.args.old.now c.place_in-place.result.now c.new-line.result c.bytes_in-before.result.now c.in_ok-bytes.bytes.items c.at-5.result c.words_of-first.result.0 c.words_of-first.result.1
    (search rules) (search rules) (search rules) (search rules) (search rules) (search rules) (search rules))
