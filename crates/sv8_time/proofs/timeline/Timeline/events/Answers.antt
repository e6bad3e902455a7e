use Rattle.std.proofs.Common.{◌∙◌, subst, ap}
use Rattle.sv8_time.specs.Schedule.{IsTimeline, pokes_of_step, requests_of_step}
use Rattle.sv8_time.proofs.SoundEvents.{words_inside, requests_inside}
use Rattle.sv8_time.proofs.timeline.Timeline.events.Goals as goal

pub returns-then-has-clause-inside : goal.returns-then-has-clause-inside
returns-then-has-clause-inside c =
    let t : IsTimeline c.args.self.now = subst IsTimeline c.self.view_is c.self.invariant.timeline in
    words_inside c.args.self.now.limit c.args.step c.args.self.now.pokes c.at.result.now t.poke_places (c.at.ensures.value ∙ ap (λ s. pokes_of_step c.args.step s.pokes) c.self.view_is) c.at.ensures.poked

pub returns-then-has-clause-levels : goal.returns-then-has-clause-levels
returns-then-has-clause-levels c =
    let t : IsTimeline c.args.self.now = subst IsTimeline c.self.view_is c.self.invariant.timeline in
    requests_inside c.args.step c.args.self.now.requests c.at-then-has-2.result.now t.request_places (c.at-then-has-2.ensures.value ∙ ap (λ s. requests_of_step c.args.step s.requests) c.self.view_is)
