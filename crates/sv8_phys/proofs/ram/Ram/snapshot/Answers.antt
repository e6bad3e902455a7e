use Rattle.std.proofs.Common.{ap, ◌∙◌}
use Rattle.sv8_phys.specs.Parts.{ram_bytes}
use Rattle.sv8_phys.proofs.ram.Ram.snapshot.Goals as goal

pub returns : goal.returns
returns g c = ap (ram_bytes g.row.PAGES) c.in_ok-directory.ensures.cases ∙ c.self.view_is
