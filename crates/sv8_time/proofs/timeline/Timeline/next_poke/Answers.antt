use Rattle.std.proofs.Common.{subst}
use Rattle.sv8_time.specs.Schedule.{has_poke, poke_after, IsNextPoke, IsTimeline}
use Rattle.sv8_time.proofs.Nexts.{next_alone, next_bound, next_poke_is}
use Rattle.sv8_time.proofs.SoundEvents.{poke_bound}
use Rattle.sv8_time.proofs.timeline.Timeline.next_poke.Goals as goal

pub returns-clause-value : goal.returns-clause-value
returns-clause-value c =
    let t : IsTimeline c.args.self.now = subst IsTimeline c.self.view_is c.self.invariant.timeline in
    next_alone (λ n. has_poke n c.args.address c.args.self.now.pokes) c.args.after c.next.result (poke_after c.args.address c.args.after c.args.self.now.pokes) (subst (λ s. IsNextPoke c.args.address c.args.after s.pokes c.next.result) c.self.view_is c.next.ensures) (next_poke_is c.args.address c.args.after c.args.self.now.pokes t.pokes_rise)

pub returns-clause-bound : goal.returns-clause-bound
returns-clause-bound c =
    let t : IsTimeline c.args.self.now = subst IsTimeline c.self.view_is c.self.invariant.timeline in
    next_bound (λ n. has_poke n c.args.address c.args.self.now.pokes) c.args.after c.next.result (poke_bound c.args.self.now.limit c.args.address c.args.self.now.pokes t.poke_places) (subst (λ s. IsNextPoke c.args.address c.args.after s.pokes c.next.result) c.self.view_is c.next.ensures)
