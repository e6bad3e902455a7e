use Rattle.std.proofs.Common.{arith}
use Rattle.sv8_search.proofs.Turned.{end_more}
use Rattle.sv8_search.proofs.descent.add_falling.Goals as goal

pub loop-left-preserved : goal.loop-left-preserved
loop-left-preserved c =
    let inv = c.loop-left.invariant in
    let items = c.in_ok-push.ensures.items in
    record {
      within = omega (arith, inv.within);
      found = end_more _ c.loop-left.found.items c.push.new.self.items c.args.seen.now _ c.loop-left.left c.loop-left.end (omega arith) (omega arith) inv.within items inv.found;
      left = omega (arith, inv.left, c.loop-left-test.true, c.if-end-gt0.true);
    }
