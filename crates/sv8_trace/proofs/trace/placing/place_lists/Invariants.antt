use Rattle.std.proofs.Common.{◌≡◌, ◌++◌, ℕ, None, length, get_or, cond, ltb}
use Rattle.sv8_trace.specs.Recording.{no_interval}
use Rattle.sv8_trace.specs.Placing.{with_kept}
use Rattle.sv8_trace.proofs.trace.placing.place_lists.Given as goal

abbrev pub invariant-loop-list : goal.invariant-loop-list
invariant-loop-list l = record {
  count : l.index ≡ length l.yielded;
  all : l.yielded ++ l.list-iterator.rest.items ≡ l.fn.lists.items;
  long : length l.intervals.items ≡ length l.initial.intervals.items;
  done : (j : ℕ) → get_or l.intervals.items j no_interval ≡ cond (ltb j l.index) (with_kept (get_or l.yielded j None) (get_or l.initial.intervals.items j no_interval)) (get_or l.initial.intervals.items j no_interval);
}
