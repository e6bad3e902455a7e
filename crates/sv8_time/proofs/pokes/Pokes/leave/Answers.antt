use Rattle.std.proofs.Common.{◌∙◌, sym, ap, arith}
use Rattle.sv8_time.specs.Schedule.{word_count}
use Rattle.sv8_time.specs.Words.{bytes_of_words, with_bytes, SameWords}
use Rattle.sv8_time.proofs.WordPlaces.{store_words, cut_words, same_placed, same_cut, stands_by_address}
use Rattle.sv8_time.proofs.PokeEdits.{word_stands, count_same}
use Rattle.sv8_time.proofs.pokes.Pokes.leave.Goals as goal

pub replace-requires : goal.replace-requires
replace-requires c = sym (word_stands c.args.word c.self.inside.words c.self.inside.by_address c.args.self.now c.self.invariant c.self.view_is) ∙ c.requires

pub replace-requires-then-is_poked : goal.replace-requires-then-is_poked
replace-requires-then-is_poked c =
    stands_by_address c.args.word.step c.args.word.address c.self.inside.words c.self.inside.by_address c.self.invariant
    (sym (word_stands c.args.word c.self.inside.words c.self.inside.by_address c.args.self.now c.self.invariant c.self.view_is) ∙ c.requires)

pub invariant_of-self : goal.invariant_of-self
invariant_of-self c = rw (c.replace.ensures.value, c.replace-then-is_poked.ensures.value) (same_placed c.args.word c.self.inside.words c.self.inside.by_address (sym c.is_poked.ensures ∙ c.if-is_poked.true) c.self.invariant)

pub cut-requires : goal.cut-requires
cut-requires c = sym (word_stands c.args.word c.self.inside.words c.self.inside.by_address c.args.self.now c.self.invariant c.self.view_is) ∙ c.requires

pub cut-requires-else-is_poked : goal.cut-requires-else-is_poked
cut-requires-else-is_poked c =
    stands_by_address c.args.word.step c.args.word.address c.self.inside.words c.self.inside.by_address c.self.invariant
    (sym (word_stands c.args.word c.self.inside.words c.self.inside.by_address c.args.self.now c.self.invariant c.self.view_is) ∙ c.requires)

pub invariant_of-self-else-is_poked : goal.invariant_of-self-else-is_poked
invariant_of-self-else-is_poked c = rw (c.cut.ensures.value, c.cut-else-is_poked.ensures.value) (same_cut c.args.word c.self.inside.words c.self.inside.by_address c.self.invariant)

pub returns-then-is_poked-clause-value : goal.returns-then-is_poked-clause-value
returns-then-is_poked-clause-value c = ap bytes_of_words c.replace.ensures.value ∙ (store_words c.args.word c.self.inside.words ∙ ap (with_bytes c.args.word.step c.args.word.address c.args.word.bytes) c.self.view_is)

pub returns-then-is_poked-clause-count : goal.returns-then-is_poked-clause-count
returns-then-is_poked-clause-count c =
    let same : SameWords c.replace.new.self c.replace-then-is_poked.new.self =
    rw (c.replace.ensures.value, c.replace-then-is_poked.ensures.value) (same_placed c.args.word c.self.inside.words c.self.inside.by_address (sym c.is_poked.ensures ∙ c.if-is_poked.true) c.self.invariant) in
    omega (arith, count_same c.replace.new.self c.replace-then-is_poked.new.self same, c.replace.ensures.count, count_same c.self.inside.words c.self.inside.by_address c.self.invariant, ap word_count c.self.view_is)

pub returns-else-is_poked-clause-value : goal.returns-else-is_poked-clause-value
returns-else-is_poked-clause-value c =
    ap bytes_of_words c.cut.ensures.value ∙ (cut_words c.args.word c.self.inside.words c.self.invariant.rising (sym c.is_poked.ensures ∙ c.if-is_poked.false) ∙ ap (with_bytes c.args.word.step c.args.word.address c.args.word.bytes) c.self.view_is)

pub returns-else-is_poked-clause-count : goal.returns-else-is_poked-clause-count
returns-else-is_poked-clause-count c =
    let same : SameWords c.cut.new.self c.cut-else-is_poked.new.self = rw (c.cut.ensures.value, c.cut-else-is_poked.ensures.value) (same_cut c.args.word c.self.inside.words c.self.inside.by_address c.self.invariant) in
    omega (arith, count_same c.cut.new.self c.cut-else-is_poked.new.self same, c.cut.ensures.count, count_same c.self.inside.words c.self.inside.by_address c.self.invariant, ap word_count c.self.view_is)
