use Rattle.std.proofs.Common.{sym, ◌∙◌}
use Rattle.sv8_isa.proofs.Rows.{meaning_at}
use Rattle.sv8_isa.proofs.Groups.{control}
use Rattle.sv8_isa.proofs.decoding.decode_control.Goals as goal

pub control_at-requires-clause-from : goal.control_at-requires-clause-from
control_at-requires-clause-from c = rw c.bits.ensures.value (control c.args.word c.requires).1

pub returns-clause-value : goal.returns-clause-value
returns-clause-value c = c.control_at.ensures.value ∙ sym (meaning_at c.args.word 2 c.bits.result (control c.args.word c.requires).0 (sym c.bits.ensures.value))
