use Rattle.std.proofs.Common.{◌≡◌, ◌∙◌, sym, subst}
use Rattle.sv8_time.specs.Words.{with_bytes}
use Rattle.sv8_time.proofs.BytePlaces.{cut_four}
use Rattle.sv8_time.proofs.WordPlaces.{word_of_aligned}
use Rattle.sv8_time.proofs.pokes.Pokes.cut_word.Goals as goal

pub returns-clause-value : goal.returns-clause-value
returns-clause-value c =
    let same = word_of_aligned c.args.address c.requires.aligned in
    let whole : c.args.self.now ≡ with_bytes c.args.step c.args.address c.word-word.result.bytes c.args.self.now = subst (λ a. c.args.self.now ≡ with_bytes c.args.step a c.word-word.result.bytes c.args.self.now) same c.word-word.ensures.whole in
    let four = cut_four c.args.step c.args.address c.word-word.result.bytes c.args.self.now c.word-word.result.full whole in
    c.leave.ensures.value ∙ rw (c.word-word.ensures.step, c.word-word.ensures.address ∙ same) (sym four)
