use Rattle.std.proofs.Common.{◌≡◌, ◌+◌, drop, Some, false}
use Rattle.sv8_tokens.specs.Lexing.{quote_at}
use Rattle.sv8_statements.specs.Steps.{◌>>=◌}
use Rattle.sv8_tokens.proofs.lexer.quote_at.Given as goal

abbrev pub invariant-loop-n : goal.invariant-loop-n
invariant-loop-n l = (quote_at l.escaped (drop l.n l.text) >>= λ k. Some (k + l.n)) ≡ quote_at false l.text
