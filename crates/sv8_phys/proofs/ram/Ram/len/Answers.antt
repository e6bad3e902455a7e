use Rattle.std.proofs.Common.{◌≡◌, ◌*◌, length, get_or, sym, ap, subst, ◌∙◌, arith}
use Rattle.sv8_model.proofs.Common.{IsByte}
use Rattle.sv8_phys.specs.Memory.{ram_size}
use Rattle.sv8_phys.specs.Parts.{groups_halves}
use Rattle.sv8_phys.proofs.AllBytes.{length-all, each-all}
use Rattle.sv8_phys.proofs.GroupLemmas.{groups_fit}
use Rattle.sv8_phys.proofs.Sizes.{of_half}
use Rattle.sv8_phys.proofs.ram.Ram.len.Goals as goal

pub returns-clause-whole : goal.returns-clause-whole
returns-clause-whole g c =
    let n = g.row.PAGES in
    let size : 2048 * (2 * n) ≡ ram_size n = omega arith in
    ap length (sym c.self.view_is) ∙ length-all 2048 of_half (2 * n) (groups_halves c.self.inside.directory.groups.items) ∙ size

pub returns-clause-bytes : goal.returns-clause-bytes
returns-clause-bytes g c = λ i. subst (λ ram. IsByte (get_or ram i 0)) c.self.view_is
    (each-all 2048 of_half (2 * g.row.PAGES) (groups_halves c.self.inside.directory.groups.items) (groups_fit c.self.inside.directory.groups.items) i)
