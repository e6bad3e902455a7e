use Rattle.std.proofs.Common.{◌≡◌, ◌≤◌, ◌<◌, ◌+◌, ◌-◌, ◌*◌, ◌/◌, ◌∙◌, arith, sym, refl}
use Rattle.std.proofs.Math.Nat.{div-add-mod, mod-lt}
use Rattle.sv8_evidence.proofs.Untouched.{none_so_far, some_there}
use Rattle.sv8_evidence.proofs.touching.touches_between.Goals as goal

pub returns-then-touches_any : goal.returns-then-touches_any
returns-then-touches_any g c =
    let a = c.args in
    let k = g.row.K in
    let start = c.loop-start.start in
    let split = div-add-mod start k in
    let few : c.min-stop.result ≤ k = omega (arith, c.min-stop.ensures) in
    let fits : k * (start / k) + c.min-stop.result ≤ a.end = omega (arith, split, c.min-stop.ensures, c.loop-start-test.true) in
    some_there a.kind g.row.NW g.row.PAGES k c.sizes.ensures.some_steps a.trace.now a.address a.count (4 * (a.address / 4)) (a.address + (a.count - 1)) refl c.requires.some (omega (arith, c.requires.some))
    start c.min-stop.result c.notes-notes.result.now c.notes-notes.ensures few a.from a.end c.loop-start.invariant.behind fits (sym c.touches_any.ensures ∙ c.if-touches_any.true)

pub loop-start-preserved : goal.loop-start-preserved
loop-start-preserved g c =
    let a = c.args in
    let k = g.row.K in
    let start = c.loop-start.start in
    let split = div-add-mod start k in
    let few : c.min-stop.result ≤ k = omega (arith, c.min-stop.ensures) in
    record {
      behind = omega (arith, split, mod-lt start c.sizes.ensures.some_steps, c.min-stop.ensures, c.loop-start.invariant.behind, c.loop-start-test.true);
      none = none_so_far a.kind g.row.NW g.row.PAGES k c.sizes.ensures.some_steps a.trace.now a.address a.count (4 * (a.address / 4)) (a.address + (a.count - 1)) refl c.requires.some (omega (arith, c.requires.some))
          start c.min-stop.result c.notes-notes.result.now c.notes-notes.ensures few a.from c.loop-start.invariant.none (sym c.touches_any.ensures ∙ c.if-touches_any.false);
    }
