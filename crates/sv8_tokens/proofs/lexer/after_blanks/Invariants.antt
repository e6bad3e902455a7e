use Rattle.std.proofs.Common.{◌≡◌, length}
use Rattle.sv8_tokens.specs.Spelling.{is_blank, span}
use Rattle.sv8_tokens.proofs.lexer.after_blanks.Given as goal

abbrev pub invariant-loop-rest : goal.invariant-loop-rest
invariant-loop-rest l = (span is_blank l.rest).1 ≡ (span is_blank l.text).1

abbrev pub decreases-loop-rest : goal.decreases-loop-rest
decreases-loop-rest l = length l.rest
