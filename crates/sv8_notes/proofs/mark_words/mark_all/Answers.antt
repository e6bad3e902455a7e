use Rattle.std.proofs.Common.{arith}
use Rattle.sv8_notes.proofs.Marking.{unmarked}
use Rattle.sv8_notes.proofs.mark_words.mark_all.Goals as goal

pub returns-clause-marked : goal.returns-clause-marked
returns-clause-marked c = unmarked c.args.notes.now c.loop-note.marks c.args.mark (λ i d h. c.loop-note.invariant.marked i d (omega (arith, h, c.loop-note-test.false)))
