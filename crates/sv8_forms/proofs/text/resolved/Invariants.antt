use Rattle.std.proofs.Common.{◌≡◌, ◌++◌, drop, false, Some}
use Rattle.sv8_forms.specs.Escapes.{resolved}
use Rattle.sv8_statements.specs.Steps.{◌>>=◌}
use Rattle.sv8_forms.proofs.text.resolved.Given as goal

abbrev pub invariant-loop-byte : goal.invariant-loop-byte
invariant-loop-byte l = (resolved l.escaped (drop l.byte-index l.text) >>= λ bs. Some (l.bytes.items ++ bs)) ≡ resolved false l.text
