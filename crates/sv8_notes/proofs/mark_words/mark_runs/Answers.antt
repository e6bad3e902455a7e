use Rattle.std.proofs.Common.{arith}
use Rattle.sv8_notes.proofs.RunsOfWords.{unmarked_runs}
use Rattle.sv8_notes.proofs.mark_words.mark_runs.Goals as goal

pub returns-clause-marked : goal.returns-clause-marked
returns-clause-marked c = unmarked_runs c.args.runs.now c.loop-index.marks c.args.mark (λ j d below. c.loop-index.invariant.marked j d (omega (arith, below, c.loop-index-test.false)))
