use Rattle.std.proofs.Common.{◌/◌, ap}
use Rattle.sv8_phys.specs.declared.block.Block.{Block}
use Rattle.sv8_phys.proofs.BlockLemmas.{in_block, block_full}
use Rattle.sv8_phys.proofs.Handles.{answers, part_written, part_kept}
use Rattle.sv8_phys.proofs.Sizes.{of_block}
use Rattle.sv8_phys.proofs.half_page.HalfPage.write_unshared_block.Goals as goal

pub returns : goal.returns
returns c =
    let half = c.args.self.now in
    let block = c.index-self-at.result in
    answers c.write_unshared.result
    (λ h. part_written in_block 128 of_block 16 block_full half.blocks half.all c.args.size c.args.at c.args.value block _ c.requires.within c.requires.aligned h)
    (λ h. part_kept in_block 128 of_block 16 block_full half.blocks half.all (c.args.at / 128) block _ (ap (λ (b : Block). b.bytes) h))
    c.write_unshared.ensures
