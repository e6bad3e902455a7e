use Rattle.std.proofs.Common.{rules, ◌≡◌, ◌+◌, [], ◌∷◌, ◌++◌, length, arith}
use Rattle.sv8_source.specs.Edits.{Continues}
use Rattle.sv8_source.specs.Text.{place_texts}
use Rattle.sv8_source.proofs.InPlace.{behind_made}
use Rattle.sv8_source.proofs.EditedWords.{behind_within}
use Rattle.sv8_source.proofs.SourceLaws.{sound}
use Rattle.sv8_source.proofs.edited.behind.Goals as goal

pub with_line-requires-clause-sound : goal.with_line-requires-clause-sound
with_line-requires-clause-sound c =
    let count : length c.args.old.now.layout.places ≡ length c.places-count.result.now = (search rules) in
    let fits : Continues c.args.old.now.layout.symbols c.args.limit (length c.places-count.result.now + 1) c.args.old.now.layout.at c.new-2.result c.in_ok-bytes.bytes.items c.in_ok-next.next = (search rules) in
    sound (record { limit = c.args.limit; lines = place_texts c.args.old.now.layout.places ++ c.args.text.now ∷ [] }) _
    (behind_made c.args.limit c.args.old.now (length c.places-count.result.now) (length c.places-count.result.now + 1) c.new-2.result c.in_ok-bytes.bytes.items c.args.text.now c.in_ok-next.next c.requires.made count c.places-count.ensures.coded (omega arith) (search rules) fits)

pub returns-clause-made : goal.returns-clause-made
returns-clause-made c =
    let count : length c.args.old.now.layout.places ≡ length c.places-count.result.now = (search rules) in
    let fits : Continues c.args.old.now.layout.symbols c.args.limit (length c.places-count.result.now + 1) c.args.old.now.layout.at c.new-2.result c.in_ok-bytes.bytes.items c.in_ok-next.next = (search rules) in
    rw c.in_ok-parts.ensures
    (behind_made c.args.limit c.args.old.now (length c.places-count.result.now) (length c.places-count.result.now + 1) c.new-2.result c.in_ok-bytes.bytes.items c.args.text.now c.in_ok-next.next c.requires.made count c.places-count.ensures.coded (omega arith) (search rules) fits)

pub returns-clause-within : goal.returns-clause-within
returns-clause-within c =
    let count : length c.args.old.now.layout.places ≡ length c.places-count.result.now = (search rules) in
    let fits : Continues c.args.old.now.layout.symbols c.args.limit (length c.places-count.result.now + 1) c.args.old.now.layout.at c.new-2.result c.in_ok-bytes.bytes.items c.in_ok-next.next = (search rules) in
    rw c.in_ok-parts.ensures (behind_within c.args.limit (length c.places-count.result.now) c.args.old.now c.new-2.result c.in_ok-bytes.bytes.items c.in_ok-next.next c.args.old.now.layout.at c.words_of-first.result.0 c.words_of-first.result.1
    count c.places-count.ensures.coded fits.at_end (search rules) (search rules) (search rules) (search rules))
