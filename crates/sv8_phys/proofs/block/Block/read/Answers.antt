use Rattle.std.proofs.Common.{refl, ap, ◌∙◌, ◌-◌, arith}
use Rattle.byteorder.specs.Endian.{big_number}
use Rattle.sv8_phys.specs.Memory.{value_at}
use Rattle.sv8_phys.proofs.Numbers.{rest_part, half_read, double_read}
use Rattle.sv8_phys.proofs.block.Block.read.Goals as goal

pub returns-in-Byte-clause-value : goal.returns-in-Byte-clause-value
unfolding value_at
returns-in-Byte-clause-value c = rw c.in-Byte.is refl

pub returns-in-Half-clause-value : goal.returns-in-Half-clause-value
unfolding value_at
returns-in-Half-clause-value c =
    let bytes = c.args.self.now.bytes in
    rw c.in-Half.is (c.read_u16.ensures
    ∙ ap (big_number 2) (rest_part bytes c.args.at (128 - c.args.at) (omega (arith, c.args.self.now.full)))
    ∙ half_read bytes c.args.at)

pub returns-in-Word-clause-value : goal.returns-in-Word-clause-value
unfolding value_at
returns-in-Word-clause-value c = rw c.in-Word.is c.word.ensures

pub returns-in-Double-clause-value : goal.returns-in-Double-clause-value
unfolding value_at
returns-in-Double-clause-value c =
    let bytes = c.args.self.now.bytes in
    rw c.in-Double.is (c.read_u64.ensures
    ∙ ap (big_number 8) (rest_part bytes c.args.at (128 - c.args.at) (omega (arith, c.args.self.now.full)))
    ∙ double_read bytes c.args.at (rw c.in-Double.is at c.requires.aligned))
