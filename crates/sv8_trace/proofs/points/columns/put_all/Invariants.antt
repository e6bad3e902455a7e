use Rattle.std.proofs.Common.{◌≡◌, ◌++◌, ℕ, None, length, get_or, cond, ltb}
use Rattle.sv8_trace.specs.Columns.{put_over}
use Rattle.sv8_trace.proofs.points.columns.put_all.Given as goal

abbrev pub invariant-loop-column : goal.invariant-loop-column
invariant-loop-column g l = record {
  count : l.index ≡ length l.yielded;
  all : l.yielded ++ l.column-iterator.rest.items ≡ l.fn.columns.items;
  long : length l.places.items ≡ length l.initial.places.items;
  done : (j : ℕ) → get_or l.places.items j None ≡ cond (ltb j l.index) (put_over (get_or l.yielded j None) (get_or l.initial.places.items j None)) (get_or l.initial.places.items j None);
}
