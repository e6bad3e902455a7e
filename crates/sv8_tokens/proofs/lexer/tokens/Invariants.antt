use Rattle.std.proofs.Common.{length}
use Rattle.sv8_tokens.specs.Token.{views}
use Rattle.sv8_tokens.proofs.Cut.{Keeps}
use Rattle.sv8_tokens.proofs.lexer.tokens.Given as goal

abbrev pub invariant-loop-out : goal.invariant-loop-out
invariant-loop-out l = Keeps l.text (views l.out.items) l.rest

abbrev pub decreases-loop-out : goal.decreases-loop-out
decreases-loop-out l = length l.rest
