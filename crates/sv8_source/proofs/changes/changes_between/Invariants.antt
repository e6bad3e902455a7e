use Rattle.std.proofs.Common.{◌≡◌, ◌-◌, ◌≤◌, ◌++◌}
use Rattle.sv8_source.specs.Listing.{shown_all}
use Rattle.sv8_source.specs.Image.{changed}
use Rattle.sv8_source.proofs.changes.changes_between.Given as goal

abbrev pub invariant-loop-word : goal.invariant-loop-word
invariant-loop-word l = record {
  low : l.first ≤ l.word;
  within : l.word ≤ l.end;
  rest : l.changes.items ++ changed (shown_all l.old) (shown_all l.new) l.word (l.end - l.word) ≡ changed (shown_all l.old) (shown_all l.new) l.first (l.end - l.first);
}

abbrev pub decreases-loop-word : goal.decreases-loop-word
decreases-loop-word l = l.end - l.word
