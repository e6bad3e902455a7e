use Rattle.std.proofs.Common.{length}
use Rattle.sv8_commands.specs.Text.{numbered_text, output_byte, output_end}
use Rattle.sv8_commands.proofs.PutLemmas.{gains-failed, Gains-after, gains-cut}
use Rattle.sv8_commands.proofs.memory.add_output.Goals as goal

pub returns : goal.returns
returns g c = Gains-after c.add_end.result _ _ _ _ _ _ _ _ c.in_ok-add_bytes.ensures c.add_end.ensures

pub returns-in_err-add_bytes : goal.returns-in_err-add_bytes
returns-in_err-add_bytes g c = gains-failed c.from_residual.result _ _ _ _ _ c.from_residual.ensures.0 (gains-cut _ _ c.args.text.now (numbered_text output_byte 0 c.args.bytes.now) (output_end (length c.args.bytes.now)) c.in_err-add_bytes.ensures)
