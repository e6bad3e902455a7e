use Rattle.std.proofs.Common.{◌/◌, ◌%◌, length, sym, ap, ◌∙◌, arith}
use Rattle.sv8_model.specs.Outside.{word_of}
use Rattle.sv8_phys.specs.Bytes.{are_bytes}
use Rattle.sv8_phys.specs.Parts.{page_bytes}
use Rattle.sv8_phys.proofs.BlockLemmas.{page_full, page_fits}
use Rattle.sv8_phys.proofs.OnePart.{word_read}
use Rattle.sv8_phys.proofs.page.Page.word.Goals as goal

pub returns-clause-value : goal.returns-clause-value
returns-clause-value c =
    let at = c.args.pa % 4096 in
    let page = page_bytes c.self.inside.halves in
    c.word.ensures
    ∙ ap (λ bytes. word_of bytes (at % 128 / 4)) c.block.ensures
    ∙ word_read 128 page (at / 128) (at / 4) (at % 128 / 4) (omega arith) (omega arith)
    ∙ ap (λ bytes. word_of bytes (at / 4)) c.self.view_is

pub returns-clause-whole : goal.returns-clause-whole
returns-clause-whole c = ap length (sym c.self.view_is) ∙ page_full c.self.inside.halves

pub returns-clause-bytes : goal.returns-clause-bytes
returns-clause-bytes c = ap are_bytes (sym c.self.view_is) ∙ page_fits c.self.inside.halves
