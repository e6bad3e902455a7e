use Rattle.std.proofs.Common.{refl, ap, ◌∙◌, ◌-◌, ◌%◌, arith}
use borrow.Rule.Slice.PartMut.{put_mid}
use Rattle.byteorder.specs.Endian.{big_bytes}
use Rattle.sv8_model.specs.Outside.{with_byte}
use Rattle.sv8_phys.specs.Memory.{with_value}
use Rattle.sv8_phys.proofs.Numbers.{put_sets, half_sets, double_sets}
use Rattle.sv8_model.specs.declared.size.Size.TheVariants.{Byte, Half, Double}
use Rattle.sv8_phys.proofs.ByteLemmas.{written_fits}
use Rattle.sv8_phys.proofs.block.Block.write.Goals as goal

pub invariant_of-self-clause-fit : goal.invariant_of-self-clause-fit
unfolding with_value with_byte
invariant_of-self-clause-fit c = written_fits Byte c.args.at c.args.value c.args.self.now.bytes _ c.args.self.now.fit refl

pub invariant_of-self-in-Half-clause-fit : goal.invariant_of-self-in-Half-clause-fit
unfolding with_value with_byte
invariant_of-self-in-Half-clause-fit c =
    let bytes = c.args.self.now.bytes in
    written_fits Half c.args.at c.args.value bytes _ c.args.self.now.fit
    (ap (put_mid c.args.at (128 - c.args.at) bytes) c.write_u16.ensures
    ∙ put_sets (big_bytes 2 (c.args.value % 65536)) bytes c.args.at (128 - c.args.at) (omega (arith, c.args.self.now.full, rw c.in-Half.is at c.requires.aligned)) (omega (arith, c.args.self.now.full))
    ∙ half_sets bytes c.args.at c.args.value)

pub invariant_of-self-in-Double-clause-fit : goal.invariant_of-self-in-Double-clause-fit
unfolding with_value
invariant_of-self-in-Double-clause-fit c =
    let bytes = c.args.self.now.bytes in
    let aligned = rw c.in-Double.is at c.requires.aligned in
    written_fits Double c.args.at c.args.value bytes _ c.args.self.now.fit
    (ap (put_mid c.args.at (128 - c.args.at) bytes) c.write_u64.ensures
    ∙ put_sets (big_bytes 8 c.args.value) bytes c.args.at (128 - c.args.at) (omega (arith, c.args.self.now.full)) (omega (arith, c.args.self.now.full))
    ∙ double_sets bytes c.args.at c.args.value aligned)

pub returns-in-Byte : goal.returns-in-Byte
unfolding with_value with_byte
returns-in-Byte c = rw c.in-Byte.is refl

pub returns-in-Half : goal.returns-in-Half
unfolding with_value with_byte
returns-in-Half c =
    let bytes = c.args.self.now.bytes in
    let low = c.args.value % 65536 in
    let aligned = rw c.in-Half.is at c.requires.aligned in
    rw c.in-Half.is (ap (put_mid c.args.at (128 - c.args.at) bytes) c.write_u16.ensures
    ∙ put_sets (big_bytes 2 low) bytes c.args.at (128 - c.args.at) (omega (arith, c.args.self.now.full)) (omega (arith, c.args.self.now.full))
    ∙ half_sets bytes c.args.at c.args.value)

pub returns-in-Word : goal.returns-in-Word
unfolding with_value
returns-in-Word c = rw c.in-Word.is c.set_word.ensures

pub returns-in-Double : goal.returns-in-Double
unfolding with_value
returns-in-Double c =
    let bytes = c.args.self.now.bytes in
    let aligned = rw c.in-Double.is at c.requires.aligned in
    rw c.in-Double.is (ap (put_mid c.args.at (128 - c.args.at) bytes) c.write_u64.ensures
    ∙ put_sets (big_bytes 8 c.args.value) bytes c.args.at (128 - c.args.at) (omega (arith, c.args.self.now.full)) (omega (arith, c.args.self.now.full))
    ∙ double_sets bytes c.args.at c.args.value aligned)
