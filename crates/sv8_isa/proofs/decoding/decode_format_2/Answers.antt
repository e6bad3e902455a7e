use Rattle.std.proofs.Common.{◌≡◌, rules, arith}
use Rattle.std.proofs.lemmas.Grind.{common_steps}
use Rattle.sv8_model.specs.Words.{field}
use Rattle.sv8_isa.specs.Table.{meaning}
use Rattle.sv8_isa.proofs.Groups.{format_2}
use Rattle.sv8_isa.proofs.decoding.decode_format_2.Goals as goal

pub returns-in_default-clause-value : goal.returns-in_default-clause-value
unfolding meaning
returns-in_default-clause-value c = let zero : field c.args.word 31 30 ≡ 0 = format_2 c.args.word c.requires in rw zero (first_of (search rules, grind (arith, common_steps)))
