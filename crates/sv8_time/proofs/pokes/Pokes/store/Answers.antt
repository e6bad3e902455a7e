use Rattle.std.proofs.Common.{◌∙◌, ap}
use Rattle.sv8_time.specs.Words.{bytes_of_words, with_bytes}
use Rattle.sv8_time.proofs.WordPlaces.{store_words}
use Rattle.sv8_time.proofs.PokeEdits.{on_ok, stored_same, stored_count}
use Rattle.sv8_time.proofs.pokes.Pokes.store.Goals as goal

pub invariant_of-self : goal.invariant_of-self
invariant_of-self c = stored_same c.put_both.result c.args.word c.self.inside.words c.put_both.new.first c.self.inside.by_address c.put_both.new.second c.requires c.self.invariant
    c.put_both.ensures.first c.put_both.ensures.second c.put_both.ensures.first_kept c.put_both.ensures.second_kept

pub returns-clause-value : goal.returns-clause-value
returns-clause-value c = on_ok c.put_both.result (λ e. ap bytes_of_words e ∙ (store_words c.args.word c.self.inside.words ∙ ap (with_bytes c.args.word.step c.args.word.address c.args.word.bytes) c.self.view_is)) c.put_both.ensures.first

pub returns-clause-count : goal.returns-clause-count
returns-clause-count c =
    let same = stored_same c.put_both.result c.args.word c.self.inside.words c.put_both.new.first c.self.inside.by_address c.put_both.new.second c.requires c.self.invariant
    c.put_both.ensures.first c.put_both.ensures.second c.put_both.ensures.first_kept c.put_both.ensures.second_kept in
    stored_count c.put_both.result c.args.word c.self.inside.words c.put_both.new.first c.self.inside.by_address c.put_both.new.second c.args.self.now c.self.invariant same c.self.view_is c.put_both.ensures.count
