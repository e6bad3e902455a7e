use Rattle.std.proofs.Common.{◌≡◌, drop}
use Rattle.sv8_tokens.specs.Lexing.{number_from}
use Rattle.sv8_tokens.proofs.number.digits.Given as goal

abbrev pub invariant-loop-byte : goal.invariant-loop-byte
invariant-loop-byte l = number_from l.base l.number (drop l.byte-index l.text) ≡ number_from l.base 0 l.text
