use Rattle.std.proofs.Common.{arith, sym}
use Rattle.sv8_time.specs.Schedule.{word_of}
use Rattle.sv8_time.proofs.BytePlaces.{value_whole}
use Rattle.sv8_time.proofs.pokes.Pokes.byte.Goals as goal

pub returns : goal.returns
returns c = sym (value_whole c.args.step (word_of c.args.address) c.args.address c.offset_of.result c.word-word.result.bytes c.args.self.now c.word-word.ensures.whole (omega (arith, c.offset_of.ensures)) (omega (arith, c.offset_of.ensures)))
