use Rattle.std.proofs.Common.{ap, ◌∙◌}
use Rattle.sv8_phys.specs.Parts.{part_of}
use Rattle.sv8_phys.proofs.ram.Ram.handle.Goals as goal

pub returns : goal.returns
returns g c = c.half.ensures g.row.PAGES c.requires ∙ ap (λ ram. part_of 2048 ram c.args.half) c.self.view_is
