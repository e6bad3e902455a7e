use Rattle.std.proofs.Common.{◌≡◌, ◌+◌, ◌^◌, ◌≤◌, drop}
use Rattle.sv8_commands.specs.Words.{hex_from}
use Rattle.sv8_commands.proofs.words.hex.Given as goal

abbrev pub invariant-loop-b : goal.invariant-loop-b
invariant-loop-b l = (hex_from l.n (drop l.b-index l.word) ≡ hex_from 0 l.word) × (l.n + 1 ≤ 16 ^ l.b-index)
