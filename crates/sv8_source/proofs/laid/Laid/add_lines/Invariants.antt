use Rattle.std.proofs.Common.{◌≡◌, ◌+◌, drop}
use Rattle.sv8_source.specs.Layout.{laid}
use Rattle.sv8_source.specs.Text.{texts}
use Rattle.sv8_source.proofs.laid.Laid.add_lines.Given as goal

abbrev pub invariant-loop-line : goal.invariant-loop-line
invariant-loop-line l = record {
  number : l.number ≡ l.fn.first + l.line-index;
  rest : laid l.limit l.number (texts (drop l.line-index l.lines)) l.self ≡ laid l.limit l.fn.first (texts l.lines) l.fn.self;
}
