use Rattle.std.proofs.Common.{◌%◌, get_or, ap, ◌∙◌, arith}
use Rattle.sv8_model.specs.declared.size.Size.TheVariants.{Byte}
use Rattle.sv8_phys.specs.Memory.{value_at}
use Rattle.sv8_phys.specs.Parts.{page_bytes}
use Rattle.sv8_phys.proofs.OnePart.{value_in_part}
use Rattle.sv8_phys.proofs.Sizes.{of_block}
use Rattle.sv8_phys.proofs.page.Page.byte.Goals as goal

pub returns : goal.returns
unfolding value_at
returns c =
    let at = c.args.pa % 4096 in
    ap (λ bytes. get_or bytes (at % 128) 0) c.block.ensures
    ∙ value_in_part 128 of_block (page_bytes c.self.inside.halves) at Byte (omega arith)
    ∙ ap (λ bytes. get_or bytes at 0) c.self.view_is
