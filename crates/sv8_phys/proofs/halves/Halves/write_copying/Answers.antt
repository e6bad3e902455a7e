use Rattle.std.proofs.Common.{◌/◌}
use Rattle.std.proofs.lemmas.Result.{err_from_is_err_and}
use Rattle.sv8_phys.proofs.BlockLemmas.{in_half, half_full}
use Rattle.sv8_phys.proofs.Handles.{part_written, part_kept}
use Rattle.sv8_phys.proofs.Sizes.{of_half}
use Rattle.sv8_phys.proofs.halves.Halves.write_copying.Goals as goal

pub returns-clause-ok : goal.returns-clause-ok
returns-clause-ok c =
    let page = c.args.self.now in
    part_written in_half 2048 of_half 2 half_full page.halves page.all c.args.size c.args.at c.args.value _ _ c.requires.within c.requires.aligned c.in_ok-write_copying.ensures.ok

pub returns-in_err-write_copying-clause-err : goal.returns-in_err-write_copying-clause-err
returns-in_err-write_copying-clause-err c =
    let page = c.args.self.now in
    let p = err_from_is_err_and c.from_residual.result c.from_residual.ensures.1 in
    rw p.1 (part_kept in_half 2048 of_half 2 half_full page.halves page.all (c.args.at / 2048) _ _ c.in_err-write_copying.ensures.err)
