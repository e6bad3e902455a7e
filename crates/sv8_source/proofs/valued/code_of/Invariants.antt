use Rattle.std.proofs.Common.{◌≡◌, ◌+◌, drop, []}
use Rattle.sv8_source.specs.Layout.{valued}
use Rattle.sv8_source.specs.Kept.{code_bytes}
use Rattle.sv8_source.proofs.valued.code_of.Given as goal

abbrev pub invariant-loop-place : goal.invariant-loop-place
invariant-loop-place l = record {
  number : l.number ≡ 1 + l.place-index;
  rest : valued l.symbols l.number (drop l.place-index l.places) (code_bytes l.code.items) ≡ valued l.symbols 1 l.places [];
}
