use Rattle.std.proofs.Common.{ap, ◌∙◌}
use Rattle.sv8_phys.specs.Memory.{with_value}
use Rattle.sv8_phys.proofs.ram.Ram.write.Goals as goal

pub returns-clause-ok : goal.returns-clause-ok
returns-clause-ok g c = c.in_ok-write.ensures.ok g.row.PAGES c.requires.within ∙ ap (with_value c.args.size c.args.at c.args.value) c.self.view_is
