use Rattle.std.proofs.Common.{◌/◌, ◌%◌, ap, ◌∙◌}
use Rattle.sv8_phys.specs.Parts.{part_of, half_bytes, page_bytes}
use Rattle.sv8_phys.proofs.BlockLemmas.{block_of_half}
use Rattle.sv8_phys.proofs.halves.Halves.block.Goals as goal

pub returns : goal.returns
returns c =
    let at = c.args.at in
    c.block.ensures
    ∙ ap (λ half. part_of 128 half (at % 2048 / 128)) (ap half_bytes c.deref.ensures ∙ c.half.ensures)
    ∙ block_of_half (page_bytes c.args.self.now) at
