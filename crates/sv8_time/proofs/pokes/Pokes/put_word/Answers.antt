use Rattle.std.proofs.Common.{◌≡◌, ◌∙◌, ◌/◌, ◌%◌, ◌^◌, sym, subst}
use Rattle.sv8_time.specs.Words.{with_bytes}
use Rattle.sv8_time.proofs.BytePlaces.{put_four}
use Rattle.sv8_time.proofs.WordPlaces.{word_of_aligned}
use Rattle.sv8_time.proofs.PokeEdits.{on_ok}
use Rattle.sv8_time.proofs.pokes.Pokes.put_word.Goals as goal

pub returns-clause-value : goal.returns-clause-value
returns-clause-value c =
    let value = c.args.value in
    let same = word_of_aligned c.args.address c.requires in
    let whole : c.args.self.now ≡ with_bytes c.args.step c.args.address c.word-word.result.bytes c.args.self.now = subst (λ a. c.args.self.now ≡ with_bytes c.args.step a c.word-word.result.bytes c.args.self.now) same c.word-word.ensures.whole in
    let four = put_four c.args.step c.args.address (value / 2 ^ 24 % 2 ^ 8) (value / 2 ^ 16 % 2 ^ 8) (value / 2 ^ 8 % 2 ^ 8) (value % 2 ^ 8) c.word-word.result.bytes c.args.self.now c.word-word.result.full whole in
    on_ok c.store.result (λ e. e ∙ rw (c.word-word.ensures.step, c.word-word.ensures.address ∙ same, c.bytes_of-word.ensures) (sym four)) c.store.ensures.value
