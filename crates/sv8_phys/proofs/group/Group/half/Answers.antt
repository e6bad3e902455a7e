use Rattle.std.proofs.Common.{◌<◌, length, arith}
use Rattle.sv8_phys.proofs.BlockLemmas.{in_half}
use Rattle.sv8_phys.proofs.Handles.{behind}
use Rattle.sv8_phys.proofs.group.Group.half.Goals as goal

pub returns : goal.returns
returns c =
    let group = c.args.self.now in
    let inside : c.args.place < length group.halves = omega (arith, c.requires, group.all) in
    behind in_half group.halves c.args.place _ inside
