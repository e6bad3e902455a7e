use Rattle.std.proofs.Common.{rules, arith, ◌<◌, None, ap, length, length-append, length-set, append_assoc}
use Rattle.sv8_trace.specs.Columns.{put_over}
use Rattle.sv8_trace.proofs.Committing.{more_put}
use Rattle.sv8_trace.proofs.points.columns.put_all.Goals as goal

pub loop-column-preserved : goal.loop-column-preserved
loop-column-preserved g c =
    let inv = c.loop-column.invariant in
    let next = c.in-Some.ensures.steps in
    let whole = inv.all in
    let seam = rw next.0 at whole in
    let n = ap length seam in
    let n2 = rw length-append at n in
    let i : c.loop-column.index < length c.loop-column.places.items = omega (arith, n2, inv.count, inv.long, c.requires) in
    record {
      count = simp length-append (omega (arith, inv.count));
      all = rw append_assoc seam;
      long = simp length-set inv.long;
      done = more_put _ _ put_over None None c.loop-column.index c.loop-column.yielded c.in-Some.column c.args.places.now.items c.loop-column.places.items c.index_mut.result.now c.put.new.place inv.count i (search rules) c.put.ensures inv.done;
    }
