use Rattle.std.proofs.Common.{◌/◌, ◌++◌, ap, ap₂, ◌∙◌}
use Rattle.sv8_phys.specs.Parts.{half_bytes}
use Rattle.sv8_phys.proofs.BlockLemmas.{both_halves}
use Rattle.sv8_phys.proofs.ram.Ram.page.Goals as goal

pub returns : goal.returns
returns g c =
    c.from_halves.ensures
    ∙ c.new.ensures
    ∙ ap₂ ◌++◌ (ap half_bytes c.in_ok-low.ensures.cases ∙ c.handle.ensures) (ap half_bytes c.in_ok-high.ensures.cases ∙ c.handle-2.ensures)
    ∙ both_halves c.args.self.now (c.args.at / 4096)
