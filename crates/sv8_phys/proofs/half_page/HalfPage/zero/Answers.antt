use Rattle.std.proofs.Common.{◌≡◌, ◌<◌, ◌∙◌, ap, sym, get_or, length, replicate, arith}
use Rattle.sv8_phys.specs.Parts.{blocks_of, half_bytes}
use Rattle.sv8_phys.proofs.AllBytes.{zeros-all}
use Rattle.sv8_phys.proofs.BlockLemmas.{in_block}
use Rattle.sv8_phys.proofs.Handles.{behind}
use Rattle.sv8_phys.proofs.Sizes.{of_block}
use Rattle.sv8_phys.proofs.half_page.HalfPage.zero.Goals as goal

pub returns : goal.returns
returns c =
    let blocks = c.in_ok-blocks.blocks in
    ap half_bytes c.in_ok-half.ensures.ok
    ∙ zeros-all 128 of_block 16 (blocks_of blocks) (λ p below.
    let made = c.in_ok-blocks.ensures.ok in
    let inside : p < length blocks = omega (arith, made.long) in
    let any = made.each.2 in
    let zeros : (get_or blocks p any).value.bytes ≡ replicate 128 0 = (made.at p any below).2.met.1 in
    sym (behind in_block blocks p any inside) ∙ zeros)
