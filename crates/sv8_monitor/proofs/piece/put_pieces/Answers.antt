use Rattle.std.proofs.Common.{◌++◌, arith, subst}
use Rattle.sv8_session.specs.Put.{AppendsPart}
use Rattle.sv8_commands.specs.Put.{Gained}
use Rattle.sv8_commands.proofs.PutLemmas.{gains-failed, gained-none}
use Rattle.sv8_commands.proofs.NumberedLemmas.{numbered-cut, numbered-next}
use Rattle.sv8_monitor.proofs.piece.put_pieces.Goals as goal

pub loop-piece-init : goal.loop-piece-init
loop-piece-init g c = gained-none _ _

pub returns-in_err-put_piece : goal.returns-in_err-put_piece
returns-in_err-put_piece g c =
    let before = g.W.Write.contents c.loop-piece.writer in
    let now = g.W.Write.contents c.put_piece.new.writer in
    gains-failed c.from_residual.result _ _ _ _ _ c.from_residual.ensures.0 (numbered-cut (λ i p. g.P.Piece.piece_text p) 0 c.args.pieces.now c.loop-piece.piece-index c.loop-piece.piece-index c.piece-item.result _ _ _ _ _ (omega arith) (omega arith) c.loop-piece.invariant
    (subst (λ (p : g.row.P.Denot). AppendsPart before now (c.loop-piece.text ++ g.P.Piece.piece_text p)) c.piece-item.is c.in_err-put_piece.ensures))

pub loop-piece-preserved : goal.loop-piece-preserved
loop-piece-preserved g c =
    let before = g.W.Write.contents c.loop-piece.writer in
    let now = g.W.Write.contents c.put_piece.new.writer in
    numbered-next (λ i p. g.P.Piece.piece_text p) 0 c.args.pieces.now c.loop-piece.piece-index c.loop-piece.piece-index c.piece-item.result _ _ _ _ _ _ (omega arith) (omega arith) c.loop-piece.invariant
    (subst (λ (p : g.row.P.Denot). Gained before now c.loop-piece.text c.put_piece.new.text (g.P.Piece.piece_text p)) c.piece-item.is c.in_ok-put_piece.ensures)
