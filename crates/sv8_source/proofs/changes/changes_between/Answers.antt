use Rattle.std.proofs.Common.{rules, arith}
use Rattle.sv8_source.specs.Listing.{shown_all}
use Rattle.sv8_source.proofs.Changed.{changed_more, changed_all}
use Rattle.sv8_source.proofs.changes.changes_between.Goals as goal

pub loop-word-preserved : goal.loop-word-preserved
loop-word-preserved c = record {
  low = omega arith;
  within = omega arith;
  rest = changed_more (shown_all c.args.old.now) (shown_all c.args.new.now) c.loop-word.changes.items c.push_changed.new.changes.items _ c.loop-word.word c.args.end c.loop-word-test.true c.loop-word.invariant.rest (search rules);
}

pub returns : goal.returns
returns c = changed_all (shown_all c.args.old.now) (shown_all c.args.new.now) c.loop-word.changes.items _ c.loop-word.word c.args.end c.loop-word-test.false c.loop-word.invariant.rest
