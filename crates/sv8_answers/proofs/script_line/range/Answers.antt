use Rattle.std.proofs.Common.{sym}
use Rattle.sv8_answers.proofs.OrderLemmas.{range-none}
use Rattle.sv8_answers.proofs.script_line.range.Goals as goal

pub returns-in_default : goal.returns-in_default
returns-in_default c = sym (range-none c.args.command.now c.in_default.not-Edit)
