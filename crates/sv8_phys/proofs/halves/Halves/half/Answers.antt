use Rattle.sv8_phys.proofs.BlockLemmas.{in_half, half_full}
use Rattle.sv8_phys.proofs.Handles.{is_part}
use Rattle.sv8_phys.proofs.Sizes.{of_half}
use Rattle.sv8_phys.proofs.halves.Halves.half.Goals as goal

pub returns : goal.returns
returns c =
    let page = c.args.self.now in
    is_part in_half 2048 of_half 2 half_full page.halves page.all c.args.number _ c.requires
