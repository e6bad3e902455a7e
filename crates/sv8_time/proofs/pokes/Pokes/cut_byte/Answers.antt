use Rattle.std.proofs.Common.{sym, arith}
use Rattle.sv8_time.specs.Schedule.{word_of}
use Rattle.sv8_time.proofs.BytePlaces.{cut_whole}
use Rattle.sv8_time.proofs.PokeEdits.{byte_in_word}
use Rattle.sv8_time.proofs.pokes.Pokes.cut_byte.Goals as goal

pub leave-requires : goal.leave-requires
leave-requires c = rw (c.word-word.ensures.step, c.word-word.ensures.address) (byte_in_word c.args.step c.args.address c.args.self.now c.requires)

pub returns-clause-value : goal.returns-clause-value
returns-clause-value c =
    let e = cut_whole c.args.step (word_of c.args.address) c.args.address c.offset_of.result c.word-word.result.bytes c.args.self.now c.args.self.now c.word-word.ensures.whole
    (omega (arith, c.offset_of.ensures)) (omega (arith, c.word-word.result.full, c.offset_of.ensures)) (omega (arith, c.offset_of.ensures)) in
    rw (e, sym c.word-word.ensures.step, sym c.word-word.ensures.address) c.leave.ensures.value
