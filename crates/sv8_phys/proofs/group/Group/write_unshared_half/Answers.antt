use Rattle.std.proofs.Common.{◌<◌, ◌/◌, ◌%◌, [], length, arith}
use Rattle.sv8_phys.specs.Memory.{with_value}
use Rattle.sv8_phys.proofs.Handles.{answers, changed, kept}
use Rattle.sv8_phys.proofs.BlockLemmas.{in_half}
use Rattle.sv8_phys.proofs.group.Group.write_unshared_half.Goals as goal

pub returns : goal.returns
returns c =
    let group = c.args.self.now in
    let at = c.args.at in
    let half = c.index-self-at.result in
    let there : at / 2048 < length group.halves = omega (arith, group.all) in
    answers c.write_unshared.result
    (λ h. changed in_half group.halves (at / 2048) half _ [] (with_value c.args.size (at % 2048) c.args.value) there h)
    (λ h. kept in_half group.halves (at / 2048) half _ h)
    c.write_unshared.ensures
