use Rattle.std.proofs.Common.{ap, ◌∙◌, ◌-◌, arith}
use Rattle.byteorder.specs.Endian.{big_number}
use Rattle.sv8_phys.proofs.Numbers.{rest_part, word_read}
use Rattle.sv8_phys.proofs.block.Block.word.Goals as goal

pub returns : goal.returns
returns c =
    let bytes = c.args.self.now.bytes in
    c.read_u32.ensures
    ∙ ap (big_number 4) (rest_part bytes c.args.at (128 - c.args.at) (omega (arith, c.args.self.now.full)))
    ∙ word_read bytes c.args.at c.requires.aligned
