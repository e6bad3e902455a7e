use Rattle.std.proofs.Common.{◌≡◌, ◌*◌, replicate, ap, ◌∙◌, arith}
use Rattle.sv8_phys.specs.Memory.{ram_size}
use Rattle.sv8_phys.specs.Parts.{groups_halves, ram_bytes}
use Rattle.sv8_phys.proofs.AllBytes.{none-all}
use Rattle.sv8_phys.proofs.Sizes.{of_half}
use Rattle.sv8_phys.proofs.ram.Ram.new.Goals as goal

pub returns : goal.returns
returns g c =
    let n = g.row.PAGES in
    let size : 2048 * (2 * n) ≡ ram_size n = omega arith in
    ap (λ groups. ram_bytes n (groups_halves groups)) c.new-2.ensures
    ∙ none-all 2048 of_half (2 * n)
    ∙ ap (λ k. replicate k 0) size
