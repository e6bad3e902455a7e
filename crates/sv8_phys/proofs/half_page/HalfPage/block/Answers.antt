use Rattle.std.proofs.Common.{◌/◌, ap, ◌∙◌, arith}
use Rattle.sv8_phys.specs.declared.block.Block.{Block}
use Rattle.sv8_phys.proofs.BlockLemmas.{in_block, block_full}
use Rattle.sv8_phys.proofs.Handles.{is_part}
use Rattle.sv8_phys.proofs.Sizes.{of_block}
use Rattle.sv8_phys.proofs.half_page.HalfPage.block.Goals as goal

pub returns : goal.returns
returns c =
    let half = c.args.self.now in
    ap (λ (b : Block). b.bytes) c.deref.ensures ∙ is_part in_block 128 of_block 16 block_full half.blocks half.all (c.args.at / 128) _ (omega arith)
