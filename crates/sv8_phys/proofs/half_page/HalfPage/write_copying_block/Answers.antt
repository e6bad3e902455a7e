use Rattle.std.proofs.Common.{◌/◌, ap}
use Rattle.std.proofs.lemmas.Result.{err_from_is_err_and}
use Rattle.sv8_phys.specs.declared.block.Block.{Block}
use Rattle.sv8_phys.proofs.BlockLemmas.{in_block, block_full}
use Rattle.sv8_phys.proofs.Handles.{part_written, part_kept}
use Rattle.sv8_phys.proofs.Sizes.{of_block}
use Rattle.sv8_phys.proofs.half_page.HalfPage.write_copying_block.Goals as goal

pub returns-clause-ok : goal.returns-clause-ok
returns-clause-ok c =
    let half = c.args.self.now in
    part_written in_block 128 of_block 16 block_full half.blocks half.all c.args.size c.args.at c.args.value _ _ c.requires.within c.requires.aligned c.in_ok-write_copying.ensures.ok

pub returns-in_err-write_copying-clause-err : goal.returns-in_err-write_copying-clause-err
returns-in_err-write_copying-clause-err c =
    let half = c.args.self.now in
    let p = err_from_is_err_and c.from_residual.result c.from_residual.ensures.1 in
    rw p.1 (part_kept in_block 128 of_block 16 block_full half.blocks half.all (c.args.at / 128) _ _ (ap (λ (b : Block). b.bytes) c.in_err-write_copying.ensures.err))
