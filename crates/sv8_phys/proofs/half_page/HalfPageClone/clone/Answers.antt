use Rattle.std.proofs.Common.{◌≡◌, ap}
use Rattle.sv8_phys.specs.declared.block.Block.{Block}
use Rattle.sv8_phys.specs.Parts.{all_bytes}
use Rattle.sv8_phys.proofs.BlockLemmas.{in_block}
use Rattle.sv8_phys.proofs.Handles.{shared}
use Rattle.sv8_phys.proofs.half_page.HalfPageClone.clone.Goals as goal

pub returns : goal.returns
returns c = record { cases = ap (all_bytes 128 16) (shared in_block (λ g h. h.value ≡ g.value) (λ g h e. ap (λ (b : Block). b.bytes) e) c.args.self.now.blocks _ c.in_ok-blocks.ensures.cases.whole) }
