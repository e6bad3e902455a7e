use Rattle.std.proofs.Common.{rules}
use Rattle.sv8_search.proofs.Compared.{none_again}
use Rattle.sv8_search.proofs.old_bytes.look_again.Goals as goal

pub returns-then-is_empty-clause-bytes : goal.returns-then-is_empty-clause-bytes
returns-then-is_empty-clause-bytes g c =
    none_again c.args.conditions.now c.args.machine.now.memory.ram c.args.old.now.items c.requires.count (search rules)
