use Rattle.std.proofs.Common.{ℕ, List, Bor, arith}
use Rattle.sv8_commands.proofs.PutLemmas.{gains-failed, pieces-cut, pieces-next}
use Rattle.sv8_commands.proofs.put.add_all.Goals as goal

pub returns-in_err-add_long : goal.returns-in_err-add_long
returns-in_err-add_long g c = gains-failed c.from_residual.result _ _ _ _ _ c.from_residual.ensures.0 (pieces-cut (λ (piece : Bor (List ℕ)). piece.now) c.args.pieces.now c.loop-piece.piece-index _ _ _ _ _ _ (omega arith) c.loop-piece.invariant c.in_err-add_long.ensures)

pub loop-piece-preserved : goal.loop-piece-preserved
loop-piece-preserved g c = pieces-next (λ (piece : Bor (List ℕ)). piece.now) c.args.pieces.now c.loop-piece.piece-index _ _ _ _ _ _ _ (omega arith) c.loop-piece.invariant c.in_ok-add_long.ensures
