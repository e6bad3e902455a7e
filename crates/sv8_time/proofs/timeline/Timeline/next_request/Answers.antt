use Rattle.std.proofs.Common.{subst}
use Rattle.sv8_time.specs.Schedule.{has_request, request_after, IsNextRequest, IsTimeline}
use Rattle.sv8_time.proofs.Nexts.{next_alone, next_bound, next_request_is}
use Rattle.sv8_time.proofs.SoundEvents.{request_bound}
use Rattle.sv8_time.proofs.timeline.Timeline.next_request.Goals as goal

pub returns-clause-value : goal.returns-clause-value
returns-clause-value c =
    let t : IsTimeline c.args.self.now = subst IsTimeline c.self.view_is c.self.invariant.timeline in
    next_alone (λ n. has_request n c.args.level c.args.self.now.requests) c.args.after c.next_request.result (request_after c.args.level c.args.after c.args.self.now.requests) (subst (λ s. IsNextRequest c.args.level c.args.after s.requests c.next_request.result) c.self.view_is c.next_request.ensures) (next_request_is c.args.level c.args.after c.args.self.now.requests t.requests_rise)

pub returns-clause-bound : goal.returns-clause-bound
returns-clause-bound c =
    let t : IsTimeline c.args.self.now = subst IsTimeline c.self.view_is c.self.invariant.timeline in
    next_bound (λ n. has_request n c.args.level c.args.self.now.requests) c.args.after c.next_request.result (request_bound c.args.level c.args.self.now.requests t.request_places) (subst (λ s. IsNextRequest c.args.level c.args.after s.requests c.next_request.result) c.self.view_is c.next_request.ensures)
