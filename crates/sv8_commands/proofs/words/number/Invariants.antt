use Rattle.std.proofs.Common.{◌≡◌, ◌+◌, ◌^◌, ◌≤◌, drop}
use Rattle.sv8_commands.specs.Words.{digits_from}
use Rattle.sv8_commands.proofs.words.number.Given as goal

abbrev pub invariant-loop-b : goal.invariant-loop-b
invariant-loop-b l = (digits_from l.n (drop l.b-index l.word) ≡ digits_from 0 l.word) × (l.n + 1 ≤ 10 ^ l.b-index)
