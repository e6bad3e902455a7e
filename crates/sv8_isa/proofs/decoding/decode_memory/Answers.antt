use Rattle.std.proofs.Common.{sym, ◌∙◌}
use Rattle.sv8_isa.proofs.Rows.{meaning_at}
use Rattle.sv8_isa.proofs.Groups.{memory}
use Rattle.sv8_isa.proofs.decoding.decode_memory.Goals as goal

pub returns-clause-value : goal.returns-clause-value
returns-clause-value c = c.memory_at.ensures.value ∙ sym (meaning_at c.args.word 3 c.bits.result (memory c.args.word c.requires) (sym c.bits.ensures.value))
