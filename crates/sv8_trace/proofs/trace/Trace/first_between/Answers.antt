use Rattle.std.proofs.Common.{◌≡◌, ◌≤◌, ◌<◌, ◌+◌, ◌*◌, ◌/◌, arith}
use Rattle.std.proofs.Math.Nat.{div-add-mod, mod-lt}
use Rattle.sv8_notes.specs.Sought.{is_met}
use Rattle.sv8_trace.proofs.Searching.{none_here, found_here}
use Rattle.sv8_trace.proofs.trace.Trace.first_between.Goals as goal

pub returns-in-Some : goal.returns-in-Some
returns-in-Some g c =
    let k = g.row.K in
    let start = c.loop-start.start in
    let pos : 0 < k = c.sizes.ensures.some_steps in
    let split = div-add-mod start k in
    let few : c.min-stop.result ≤ k = omega (arith, c.min-stop.ensures) in
    let fits : k * (start / k) + c.min-stop.result ≤ c.args.end = omega (arith, split, c.min-stop.ensures, c.loop-start-test.true) in
    found_here g.row.NW g.row.PAGES k pos c.args.self.now (is_met c.args.sought) start c.min-stop.result c.notes-notes.result.now c.notes-notes.ensures few c.args.from c.args.end c.in-Some.offset
    c.loop-start.invariant.behind fits c.loop-start.invariant.none c.in-Some.ensures

pub loop-start-preserved : goal.loop-start-preserved
loop-start-preserved g c =
    let k = g.row.K in
    let start = c.loop-start.start in
    let pos : 0 < k = c.sizes.ensures.some_steps in
    let split = div-add-mod start k in
    let few : c.min-stop.result ≤ k = omega (arith, c.min-stop.ensures) in
    record {
      behind = omega (arith, split, mod-lt start pos, c.min-stop.ensures, c.loop-start.invariant.behind, c.loop-start-test.true);
      none = none_here g.row.NW g.row.PAGES k pos c.args.self.now (is_met c.args.sought) start c.min-stop.result c.notes-notes.result.now c.notes-notes.ensures few c.args.from c.loop-start.invariant.none c.in-None.ensures;
    }
