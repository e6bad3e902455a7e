use Rattle.std.proofs.Common.{sym, arith}
use Rattle.sv8_time.specs.Schedule.{word_of}
use Rattle.sv8_time.proofs.BytePlaces.{put_whole, set_is_poked}
use Rattle.sv8_time.proofs.pokes.Pokes.put_byte.Goals as goal

pub store-requires : goal.store-requires
store-requires c = set_is_poked c.word-word.result.bytes c.offset_of.result c.args.value (omega (arith, c.word-word.result.full, c.offset_of.ensures))

pub returns-clause-value : goal.returns-clause-value
returns-clause-value c =
    let e = put_whole c.args.step (word_of c.args.address) c.args.address c.offset_of.result c.args.value c.word-word.result.bytes c.args.self.now c.args.self.now c.word-word.ensures.whole
    (omega (arith, c.offset_of.ensures)) (omega (arith, c.word-word.result.full, c.offset_of.ensures)) (omega (arith, c.offset_of.ensures)) in
    rw (e, sym c.word-word.ensures.step, sym c.word-word.ensures.address) c.store.ensures.value
