use Rattle.std.proofs.Common.{◌≤◌, length}
use Rattle.sv8_cases.proofs.commands.command_end.Given as goal

abbrev pub invariant-loop-line : goal.invariant-loop-line
invariant-loop-line l = l.end ≤ length l.script
