use Rattle.sv8_commands.proofs.PutLemmas.{Wrote}
use Rattle.sv8_commands.proofs.put.put.Given as goal

abbrev pub invariant-loop-turn : goal.invariant-loop-turn
invariant-loop-turn g l = Wrote (g.W.Write.contents l.initial.writer) (g.W.Write.contents l.writer) l.bytes l.rest l._turn
