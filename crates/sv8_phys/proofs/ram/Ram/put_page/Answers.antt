use Rattle.std.proofs.Common.{◌/◌, ap, ◌∙◌, arith}
use Rattle.sv8_phys.specs.Memory.{with_page}
use Rattle.sv8_phys.specs.Parts.{groups_halves, ram_bytes}
use Rattle.sv8_phys.proofs.ram.Ram.put_page.Goals as goal

pub returns-clause-ok : goal.returns-clause-ok
returns-clause-ok g c =
    let n = g.row.PAGES in
    let p = c.args.at / 4096 in
    c.in_ok-put_page.ensures.ok n (omega arith)
    ∙ ap (with_page (ram_bytes n (groups_halves c.self.inside.directory.groups.items)) p) c.halves.ensures
    ∙ ap (λ ram. with_page ram p c.args.page) c.self.view_is
