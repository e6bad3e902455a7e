use Rattle.std.proofs.Common.{◌≡◌, ◌+◌, length}
use Rattle.sv8_tokens.specs.Token.{views}
use Rattle.sv8_statements.specs.Operand.{operand_views}
use Rattle.sv8_syntax.specs.Reading.{parts_of, operands_of}
use Rattle.sv8_syntax.specs.Parts.{parts_behind}
use Rattle.sv8_syntax.proofs.Split.{left, behind}
use Rattle.sv8_syntax.proofs.line.operands.Given as goal

abbrev pub invariant-loop-rest : goal.invariant-loop-rest
invariant-loop-rest l = record {
  read : behind (operand_views l.out.items) (operands_of (parts_behind l.rest)) ≡ operands_of (parts_of (views l.fn.tokens));
  count : length l.out.items + length (parts_behind l.rest) ≡ length (parts_of (views l.fn.tokens));
}

abbrev pub decreases-loop-rest : goal.decreases-loop-rest
decreases-loop-rest l = left l.rest
