use Rattle.std.proofs.Common.{◌/◌, ap, ◌∙◌, ◌-◌, arith}
use borrow.Rule.Slice.PartMut.{put_mid}
use Rattle.byteorder.specs.Endian.{big_bytes}
use Rattle.sv8_phys.proofs.ByteLemmas.{word_fits}
use Rattle.sv8_phys.proofs.Numbers.{put_sets, word_sets}
use Rattle.sv8_phys.proofs.block.Block.set_word.Goals as goal

pub invariant_of-self-clause-fit : goal.invariant_of-self-clause-fit
invariant_of-self-clause-fit c =
    let bytes = c.args.self.now.bytes in
    word_fits (c.args.at / 4) c.args.value bytes _ c.args.self.now.fit
    (ap (put_mid c.args.at (128 - c.args.at) bytes) c.write_u32.ensures
    ∙ put_sets (big_bytes 4 c.args.value) bytes c.args.at (128 - c.args.at) (omega (arith, c.args.self.now.full)) (omega (arith, c.args.self.now.full))
    ∙ word_sets bytes c.args.at c.args.value c.requires.aligned)

pub returns : goal.returns
returns c =
    let bytes = c.args.self.now.bytes in
    ap (put_mid c.args.at (128 - c.args.at) bytes) c.write_u32.ensures
    ∙ put_sets (big_bytes 4 c.args.value) bytes c.args.at (128 - c.args.at) (omega (arith, c.args.self.now.full)) (omega (arith, c.args.self.now.full))
    ∙ word_sets bytes c.args.at c.args.value c.requires.aligned
