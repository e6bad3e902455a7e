use Rattle.std.proofs.Common.{take, flat_map}
use Rattle.sv8_commands.specs.Put.{Gained}
use Rattle.sv8_commands.proofs.put.add_all.Given as goal

abbrev pub invariant-loop-piece : goal.invariant-loop-piece
invariant-loop-piece g l = Gained (g.W.Write.contents l.initial.writer) (g.W.Write.contents l.writer) l.initial.text l.text (flat_map (λ piece. piece.now) (take l.piece-index l.pieces))
