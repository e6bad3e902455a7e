use Rattle.std.proofs.Common.{◌≡◌, ◌+◌, drop}
use Rattle.sv8_source.specs.Layout.{laid}
use Rattle.sv8_source.specs.Text.{place_texts}
use Rattle.sv8_source.proofs.laid.Laid.add_places.Given as goal

abbrev pub invariant-loop-place : goal.invariant-loop-place
invariant-loop-place l = record {
  number : l.number ≡ l.fn.first + l.place-index;
  rest : laid l.limit l.number (place_texts (drop l.place-index l.places)) l.self ≡ laid l.limit l.fn.first (place_texts l.places) l.fn.self;
}
