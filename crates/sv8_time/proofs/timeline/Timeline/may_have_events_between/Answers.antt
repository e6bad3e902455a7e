use Rattle.std.proofs.Common.{sym, ap, ◌∙◌}
use Rattle.sv8_time.specs.Schedule.{Schedule, pokes_of_step, bytes_of_step, requests_of_step}
use Rattle.sv8_time.proofs.SoundEvents.{no_pokes, no_bytes, no_requests}
use Rattle.sv8_time.proofs.timeline.Timeline.may_have_events_between.Goals as goal

pub returns-clause-pokes : goal.returns-clause-pokes
returns-clause-pokes c = λ e step low below.
    ap (λ (s : Schedule). pokes_of_step step s.pokes) (sym c.self.view_is) ∙ sym (no_pokes c.self.inside.marks step _ c.self.invariant (c.has_any.ensures e step low below))

pub returns-clause-bytes : goal.returns-clause-bytes
returns-clause-bytes c = λ e step low below.
    ap (λ (s : Schedule). bytes_of_step step s.inputs) (sym c.self.view_is) ∙ sym (no_bytes c.self.inside.marks step _ c.self.invariant (c.has_any.ensures e step low below))

pub returns-clause-requests : goal.returns-clause-requests
returns-clause-requests c = λ e step low below.
    ap (λ (s : Schedule). requests_of_step step s.requests) (sym c.self.view_is) ∙ sym (no_requests c.self.inside.marks step _ c.self.invariant (c.has_any.ensures e step low below))
