use Rattle.std.proofs.Common.{arith}
use Rattle.sv8_notes.proofs.RunsOfWords.{longer_run}
use Rattle.sv8_notes.proofs.word_run.WordRun.extend.Goals as goal

pub returns : goal.returns
returns c =
    longer_run c.args.self.now.address c.args.self.now.first c.args.self.now.count c.args.address c.args.offset
    (omega (arith, c.if-from-count.false, c.from.ensures, c.from-count.ensures, c.from-2.ensures))
    (omega (arith, c.if-from-count-2.false, c.from-3.ensures, c.from-count.ensures, c.from-4.ensures))
