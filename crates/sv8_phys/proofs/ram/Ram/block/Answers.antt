use Rattle.std.proofs.Common.{◌/◌, ◌%◌, ap, ◌∙◌}
use Rattle.sv8_phys.specs.Parts.{half_bytes, part_of}
use Rattle.sv8_phys.proofs.BlockLemmas.{block_of_half}
use Rattle.sv8_phys.proofs.ram.Ram.block.Goals as goal

pub returns : goal.returns
returns g c =
    let at = c.args.at in
    c.block.ensures
    ∙ ap (λ half. part_of 128 half (at % 2048 / 128)) (ap half_bytes c.deref.ensures ∙ c.handle.ensures)
    ∙ block_of_half c.args.self.now at
