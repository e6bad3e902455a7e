use Rattle.std.proofs.Common.{◌≡◌, ◌∙◌, sym, ap, false}
use Rattle.sv8_time.specs.Words.{is_poked}
use Rattle.sv8_time.proofs.WordPlaces.{word_found, word_whole}
use Rattle.sv8_time.proofs.pokes.Pokes.word.Goals as goal

pub returns-clause-step : goal.returns-clause-step
returns-clause-step c = let h = word_found c.unpoked-unpoked.result c.self.inside.words c.get.result c.get.ensures in rw c.unwrap_or.ensures (h.0 ∙ c.unpoked-unpoked.ensures.step)

pub returns-clause-address : goal.returns-clause-address
returns-clause-address c = let h = word_found c.unpoked-unpoked.result c.self.inside.words c.get.result c.get.ensures in rw c.unwrap_or.ensures (h.1 ∙ c.unpoked-unpoked.ensures.address)

pub returns-clause-whole : goal.returns-clause-whole
returns-clause-whole c =
    let e : is_poked c.unpoked-unpoked.result.bytes ≡ false = ap is_poked c.unpoked-unpoked.ensures.bytes in
    let h = word_whole c.unpoked-unpoked.result c.self.inside.words c.get.result c.self.invariant.rising c.get.ensures e in
    rw (c.unwrap_or.ensures, sym c.self.view_is, sym c.unpoked-unpoked.ensures.step, sym c.unpoked-unpoked.ensures.address) h
