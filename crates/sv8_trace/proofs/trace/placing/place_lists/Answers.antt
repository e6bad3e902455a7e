use Rattle.std.proofs.Common.{rules, arith, ◌<◌, None, Option, List, ap, length, length-append, length-set, append_assoc}
use Rattle.sv8_notes.specs.declared.kept.Kept.{Kept}
use Rattle.sv8_trace.specs.declared.interval.Interval.{Interval}
use Rattle.sv8_trace.specs.Recording.{no_interval}
use Rattle.sv8_trace.specs.Placing.{with_kept}
use Rattle.sv8_trace.proofs.Committing.{more_put}
use Rattle.sv8_trace.proofs.trace.placing.place_lists.Goals as goal

pub loop-list-preserved : goal.loop-list-preserved
loop-list-preserved c =
    let inv = c.loop-list.invariant in
    let next = c.in-Some.ensures.steps in
    let whole = inv.all in
    let seam = rw next.0 at whole in
    let n = ap length seam in
    let n2 = rw length-append at n in
    let i : c.loop-list.index < length c.loop-list.intervals.items = omega (arith, n2, inv.count, inv.long, c.requires.length) in
    record {
      count = simp length-append (omega (arith, inv.count));
      all = rw append_assoc seam;
      long = simp length-set inv.long;
      done = more_put Interval (Option (List Kept)) with_kept no_interval None c.loop-list.index c.loop-list.yielded c.in-Some.list c.args.intervals.now.items c.loop-list.intervals.items c.index_mut.result.now c.place_list.new.interval inv.count i (search rules) c.place_list.ensures inv.done;
    }
