use Rattle.std.proofs.Common.{rules, ◌≡◌, ◌+◌, ◌*◌, ap, ap₂, ◌∙◌, length, get_or, arith, subst}
use Rattle.sv8_trace.specs.Recorder.{steps_on, IsRecorded}
use Rattle.sv8_trace.specs.Recording.{Recording, IsExtended, blank, last_point}
use Rattle.sv8_trace.proofs.trace.Trace.extend.Goals as goal

pub returns-clause-extended : goal.returns-clause-extended
returns-clause-extended g c =
    let k = g.row.K in
    let t = c.args.timeline.now in
    let old : Recording = record { points = c.self.inside.points; intervals = c.self.inside.intervals.items } in
    let made = c.in_ok-machine-2 in
    let size : c.len-count.result ≡ length old.intervals = search rules in
    let first : c.in_ok-machine.machine ≡ last_point old = c.in_ok-machine.ensures ∙ ap (λ i. get_or old.points i blank) size in
    let n : k * c.len-count.result ≡ k * length old.intervals = ap (λ x. k * x) size in
    let state = made.ensures.state ∙ ap₂ (λ x s. steps_on g.row.NW g.row.PAGES t x s k) n first in
    let steps = subst (λ x. IsRecorded g.row.NW g.row.PAGES t x (last_point old) k made.interval) n
    (subst (λ s. IsRecorded g.row.NW g.row.PAGES t (k * c.len-count.result) s k made.interval) first made.ensures.recorded) in
    subst (λ (r : Recording). IsExtended g.row.NW g.row.PAGES k t r c.add.new.self) c.self.view_is (c.in_ok-add.ensures.extended t state steps)

pub returns-clause-delivered : goal.returns-clause-delivered
returns-clause-delivered g c =
    let k = g.row.K in
    let size : c.len-count.result ≡ length c.self.inside.intervals.items = search rules in
    let here = ap (λ x. k * x) size in
    let more = ap (λ x. k * x) c.in_ok-add.ensures.longer in
    let longer : k * length c.add.new.self.intervals ≡ k * c.len-count.result + k = omega (arith, here, more) in
    rw (c.in_ok-add.ensures.last, longer) c.in_ok-machine-2.ensures.delivered
