use Rattle.std.proofs.Common.{◌%◌, ap, ◌∙◌}
use Rattle.sv8_phys.specs.Memory.{value_at}
use Rattle.sv8_phys.proofs.OnePart.{value_in_part}
use Rattle.sv8_phys.proofs.Sizes.{of_block}
use Rattle.sv8_phys.proofs.ram.Ram.read.Goals as goal

pub returns-clause-value : goal.returns-clause-value
returns-clause-value g c =
    let at = c.args.at in
    c.read.ensures.value
    ∙ ap (value_at c.args.size (at % 128)) c.block.ensures
    ∙ value_in_part 128 of_block c.args.self.now at c.args.size c.requires.aligned
