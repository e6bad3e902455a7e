use Rattle.std.proofs.Common.{take}
use Rattle.sv8_commands.specs.Put.{Gained}
use Rattle.sv8_commands.specs.Text.{numbered_text}
use Rattle.sv8_monitor.proofs.piece.put_pieces.Given as goal

-- the texts of the pieces up to the present one
abbrev pub invariant-loop-piece : goal.invariant-loop-piece
invariant-loop-piece g l =
    Gained (g.W.Write.contents l.initial.writer) (g.W.Write.contents l.writer) l.initial.text l.text (numbered_text (λ i p. g.P.Piece.piece_text p) 0 (take l.piece-index l.pieces))
