use Rattle.std.proofs.Common.{◌≡◌, ◌-◌, ◌≤◌, ◌<◌, Some, length}
use Rattle.std.specs.List.{slice_get}
use Rattle.sv8_source.specs.Layout.{Place}
use Rattle.sv8_source.proofs.places.lines_up_to.Given as goal

abbrev pub invariant-loop-low : goal.invariant-loop-low
invariant-loop-low l = record {
  order : l.low ≤ l.high;
  within : l.high ≤ length l.places;
  below : (p : Place) → 0 < l.low → slice_get l.places (l.low - 1) ≡ Some p → p.at ≤ l.address;
  above : (p : Place) → slice_get l.places l.high ≡ Some p → l.address < p.at;
}

abbrev pub decreases-loop-low : goal.decreases-loop-low
decreases-loop-low l = l.high - l.low
