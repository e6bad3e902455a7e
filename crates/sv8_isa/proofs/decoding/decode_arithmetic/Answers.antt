use Rattle.std.proofs.Common.{sym, ◌∙◌}
use Rattle.sv8_isa.proofs.Rows.{meaning_at}
use Rattle.sv8_isa.proofs.Groups.{arithmetic}
use Rattle.sv8_isa.proofs.decoding.decode_arithmetic.Goals as goal

pub arithmetic_at-requires : goal.arithmetic_at-requires
arithmetic_at-requires c = rw c.bits.ensures.value (arithmetic c.args.word c.requires).1

pub returns-clause-value : goal.returns-clause-value
returns-clause-value c = c.arithmetic_at.ensures.value ∙ sym (meaning_at c.args.word 2 c.bits.result (arithmetic c.args.word c.requires).0 (sym c.bits.ensures.value))
