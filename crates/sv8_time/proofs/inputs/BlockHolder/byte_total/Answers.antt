use Rattle.std.proofs.Common.{◌∙◌}
use Rattle.sv8_time.proofs.BlockPlaces.{length_bytes}
use Rattle.sv8_time.proofs.inputs.BlockHolder.byte_total.Goals as goal

pub returns : goal.returns
returns c = c.total.ensures ∙ length_bytes c.args.self.now
