use Rattle.std.proofs.Common.{◌≡◌, drop}
use Rattle.sv8_commands.specs.Words.{all_hex}
use Rattle.sv8_commands.proofs.hex_bytes.all_hex.Given as goal

abbrev pub invariant-loop-b : goal.invariant-loop-b
invariant-loop-b l = all_hex (drop l.b-index l.word) ≡ all_hex l.word
