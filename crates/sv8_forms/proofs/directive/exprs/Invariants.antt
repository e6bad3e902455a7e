use Rattle.std.proofs.Common.{◌≡◌, ◌++◌, drop, length, Some}
use Rattle.sv8_statements.specs.Operand.{operand_views}
use Rattle.sv8_forms.specs.Taking.{exprs_in}
use Rattle.sv8_statements.specs.Steps.{◌>>=◌}
use Rattle.sv8_forms.proofs.directive.exprs.Given as goal

abbrev pub invariant-loop-operand : goal.invariant-loop-operand
invariant-loop-operand l = record {
  read : (exprs_in (operand_views (drop l.operand-index l.operands)) >>= λ es. Some (l.items.items ++ es)) ≡ exprs_in (operand_views l.operands);
  count : length l.items.items ≡ l.operand-index;
}
