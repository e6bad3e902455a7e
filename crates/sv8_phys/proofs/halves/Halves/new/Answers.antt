use Rattle.std.proofs.Common.{◌∷◌, [], ap₂, sym, ◌++◌, ◌∙◌, arith}
use Rattle.std.proofs.lemmas.List.{take_all}
use Rattle.sv8_phys.specs.Parts.{all_bytes, half_bytes}
use Rattle.sv8_phys.proofs.AllBytes.{length-all, part_of-all}
use Rattle.sv8_phys.proofs.BlockLemmas.{half_full, both_halves}
use Rattle.sv8_phys.proofs.Sizes.{of_half}
use Rattle.sv8_phys.proofs.halves.Halves.new.Goals as goal

pub returns : goal.returns
returns c =
    let low = c.args.low in
    let high = c.args.high in
    let parts = half_bytes low.value ∷ half_bytes high.value ∷ [] in
    let page = all_bytes 2048 2 parts in
    sym (take_all 4096 page (omega (arith, length-all 2048 of_half 2 parts)))
    ∙ sym (both_halves page 0)
    ∙ ap₂ ◌++◌ (part_of-all 2048 of_half 2 parts 0 (omega arith) (half_full low)) (part_of-all 2048 of_half 2 parts 1 (omega arith) (half_full high))
