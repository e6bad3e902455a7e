use Rattle.std.proofs.Common.{◌<◌, ◌/◌, ◌%◌, [], length, arith}
use Rattle.std.proofs.lemmas.Result.{err_from_is_err_and}
use Rattle.sv8_phys.specs.Memory.{with_value}
use Rattle.sv8_phys.proofs.BlockLemmas.{in_half}
use Rattle.sv8_phys.proofs.Handles.{changed, kept}
use Rattle.sv8_phys.proofs.group.Group.write_copying_half.Goals as goal

pub returns-clause-ok : goal.returns-clause-ok
returns-clause-ok c =
    let group = c.args.self.now in
    let at = c.args.at in
    let there : at / 2048 < length group.halves = omega (arith, c.requires.within, group.all) in
    changed in_half group.halves (at / 2048) _ _ [] (with_value c.args.size (at % 2048) c.args.value) there c.in_ok-write_copying.ensures.ok

pub returns-in_err-write_copying-clause-err : goal.returns-in_err-write_copying-clause-err
returns-in_err-write_copying-clause-err c =
    let group = c.args.self.now in
    let p = err_from_is_err_and c.from_residual.result c.from_residual.ensures.1 in
    rw p.1 (kept in_half group.halves (c.args.at / 2048) _ _ c.in_err-write_copying.ensures.err)
