use Rattle.std.proofs.Common.{arith}
use Rattle.sv8_watch.proofs.Words.{bytes_differ}
use Rattle.sv8_watch.proofs.condition.is_other_word.Goals as goal

pub returns : goal.returns
returns g c =
    bytes_differ c.args.machine.now.memory.ram c.args.address c.args.first c.args.second c.args.third c.args.fourth c.word.result c.from_be_bytes.result
    c.ram_size-size.ensures.contents.bytes c.requires.aligned (omega arith) (omega arith) (omega arith) (omega arith) c.word.ensures c.from_be_bytes.ensures
