use Rattle.std.proofs.Common.{arith}
use Rattle.sv8_answers.specs.Text.{listed_byte}
use Rattle.sv8_commands.proofs.PutLemmas.{gains-failed, gained-none}
use Rattle.sv8_commands.proofs.NumberedLemmas.{numbered-cut, numbered-next}
use Rattle.sv8_answers.proofs.lines.add_bytes.Goals as goal

pub loop-place-init : goal.loop-place-init
loop-place-init g c = gained-none _ _

pub returns-in_err-add_byte : goal.returns-in_err-add_byte
returns-in_err-add_byte g c = gains-failed c.from_residual.result _ _ _ _ _ c.from_residual.ensures.0 (numbered-cut listed_byte 0 c.args.bytes.now c.loop-place.place c.loop-place.place 0 _ _ _ _ _ (omega arith) (omega arith) c.loop-place.invariant c.in_err-add_byte.ensures)

pub loop-place-preserved : goal.loop-place-preserved
loop-place-preserved g c = numbered-next listed_byte 0 c.args.bytes.now c.loop-place.place c.loop-place.place 0 _ _ _ _ _ _ (omega arith) (omega arith) c.loop-place.invariant c.in_ok-add_byte.ensures
