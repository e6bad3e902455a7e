use Rattle.std.proofs.Common.{replicate}
use Rattle.sv8_phys.proofs.BlockLemmas.{in_half}
use Rattle.sv8_phys.proofs.Handles.{all_alike}
use Rattle.sv8_phys.proofs.group.Group.zero.Goals as goal

pub returns : goal.returns
returns c =
    let halves = c.in_ok-halves.halves in
    let made = c.in_ok-halves.ensures.ok in
    let any = made.each.2 in
    all_alike in_half halves 16 (replicate 2048 0) any made.long (λ p below. (made.at p any below).2.met.1)
