use Rattle.std.proofs.Common.{◌%◌, ap₂, sym, ◌∙◌, arith}
use Rattle.sv8_phys.specs.Memory.{ram_size}
use Rattle.sv8_phys.specs.Differences.{next_difference}
use Rattle.sv8_phys.proofs.Difference.{in_block}
use Rattle.sv8_phys.proofs.ram.Ram.difference_in_block.Goals as goal

pub returns-in-Some : goal.returns-in-Some
returns-in-Some g c =
    in_block c.args.self.now c.args.other.now (ram_size g.row.PAGES) c.args.from _ (omega arith) c.requires.within c.requires.aligned
    (sym c.in-Some.is ∙ c.next_difference.ensures.value
    ∙ ap₂ (λ xs ys. next_difference 128 xs ys (c.args.from % 128)) c.block-block.ensures c.block.ensures)

pub returns-in-None : goal.returns-in-None
returns-in-None g c =
    in_block c.args.self.now c.args.other.now (ram_size g.row.PAGES) c.args.from _ (omega arith) c.requires.within c.requires.aligned
    (sym c.in-None.is ∙ c.next_difference.ensures.value
    ∙ ap₂ (λ xs ys. next_difference 128 xs ys (c.args.from % 128)) c.block-block.ensures c.block.ensures)
