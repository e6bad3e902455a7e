use Rattle.std.proofs.Common.{◌≤◌, MatchBool, subst, arith}
use Rattle.sv8_trace.specs.Recording.{recorded}
use Rattle.sv8_evidence.specs.Touching.{NoneTouches}
use Rattle.sv8_search.specs.Touching.{NonePokes}
use Rattle.sv8_search.proofs.Untouched.{of_bench, answer_by_pokes, answer_by_touches}
use Rattle.sv8_search.proofs.touching.is_untouched.Goals as goal

pub returns-then-is_untouched : goal.returns-then-is_untouched
returns-then-is_untouched g c =
    let a = c.args in
    let w = a.bench.now in
    let within : a.to ≤ recorded g.row.K w.recording = omega (arith, c.recorded.ensures.steps, c.if-to-recorded.false) in
    let none =
    of_bench (λ n p r. NoneTouches a.kind n p g.row.K r a.address a.count a.from a.to) w _ _ _ c.sizes.ensures.windows c.sizes.ensures.pages c.trace-trace.ensures c.if-is_untouched.ensures in
    let poked = subst (λ t. MatchBool c.pokes_between.result (NonePokes t a.address a.count a.from a.to → ⊥) (NonePokes t a.address a.count a.from a.to)) c.timeline.ensures c.pokes_between.ensures in
    answer_by_pokes a.kind g.row.K w c.recorded.ensures.run a.address a.count a.from a.to c.pokes_between.result within none poked

pub returns-else-is_untouched : goal.returns-else-is_untouched
returns-else-is_untouched g c =
    let a = c.args in
    let w = a.bench.now in
    let some =
    of_bench (λ n p r. NoneTouches a.kind n p g.row.K r a.address a.count a.from a.to → ⊥) w _ _ _ c.sizes.ensures.windows c.sizes.ensures.pages c.trace-trace.ensures c.if-is_untouched.ensures in
    answer_by_touches a.kind g.row.K w c.recorded.ensures.run a.address a.count a.from a.to c.is_untouched.result c.if-is_untouched.false some
