use Rattle.std.proofs.Common.{◌≡◌, ◌≤◌, ◌<◌, ◌+◌, ◌*◌, ◌/◌, ◌∙◌, arith, sym}
use Rattle.std.proofs.Math.Nat.{div-add-mod, mod-lt}
use Rattle.sv8_evidence.proofs.SignLemmas.{none_so_far, some_there}
use Rattle.sv8_evidence.proofs.showing.shows_none.Goals as goal

pub returns-then-any_between : goal.returns-then-any_between
returns-then-any_between g c =
    let k = g.row.K in
    let start = c.loop-start.start in
    let split = div-add-mod start k in
    let small = mod-lt start c.sizes.ensures.some_steps in
    let few : c.min-stop.result ≤ k = omega (arith, c.min-stop.ensures) in
    let fits : k * (start / k) + c.min-stop.result ≤ c.args.to = omega (arith, split, c.min-stop.ensures, c.loop-start-test.true) in
    some_there c.args.sign k start c.args.trace.now c.signs-signs.result.now c.signs-signs.ensures c.min-stop.result few c.args.from c.args.to c.loop-start.invariant.behind
    (omega (arith, split, small, c.min-stop.ensures, c.loop-start-test.true)) fits (sym c.any_between.ensures ∙ c.if-any_between.true)

pub loop-start-preserved : goal.loop-start-preserved
loop-start-preserved g c =
    let k = g.row.K in
    let start = c.loop-start.start in
    let split = div-add-mod start k in
    let few : c.min-stop.result ≤ k = omega (arith, c.min-stop.ensures) in
    record {
      behind = omega (arith, split, mod-lt start c.sizes.ensures.some_steps, c.min-stop.ensures, c.loop-start.invariant.behind, c.loop-start-test.true);
      none = none_so_far c.args.sign k start c.args.trace.now c.signs-signs.result.now c.signs-signs.ensures c.min-stop.result few c.args.from c.loop-start.invariant.none (sym c.any_between.ensures ∙ c.if-any_between.false);
    }
