use Rattle.std.proofs.Common.{◌≡◌, ◌++◌, ◌-◌, ◌≤◌, length, take, reverse}
use Rattle.sv8_search.proofs.descent.add_falling.Given as goal

abbrev pub invariant-loop-left : goal.invariant-loop-left
invariant-loop-left l = record {
  within : l.end ≤ length l.seen;
  found : l.found.items ++ take l.left (reverse (take l.end l.seen)) ≡ l.fn.found.items ++ take l.most (reverse l.seen);
  left : l.left - l.end ≡ l.most - length l.seen;
}

abbrev pub decreases-loop-left : goal.decreases-loop-left
decreases-loop-left l = l.left
