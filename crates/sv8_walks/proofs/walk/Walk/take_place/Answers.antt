use Rattle.std.proofs.Common.{◌≡◌, ◌∙◌, ◌+◌, ◌≤◌, sym, ap, arith, subst}
use Rattle.sv8_trace.specs.Recording.{last_point, no_interval, recorded}
use Rattle.sv8_trace.proofs.Common.{recorded_none}
use Rattle.sv8_workbench.specs.Shown.{machine_state}
use Rattle.sv8_bench.proofs.Queried.{last_is}
use Rattle.sv8_walks.specs.Drafts.{Drafted, IsDraft}
use Rattle.sv8_walks.proofs.Walking.{placed_restored, at_the_last}
use Rattle.sv8_walks.proofs.walk.Walk.take_place.Goals as goal

pub returns-in_ok-machine-in-Restored-clause-walk : goal.returns-in_ok-machine-in-Restored-clause-walk
returns-in_ok-machine-in-Restored-clause-walk g c =
    let k = g.row.K in
    let w = c.args.bench.now in
    let n = c.args.self.now.step in
    let walk = c.requires.walk in
    let last = recorded k w.recording in
    let placed = placed_restored k w n c.args.self.now.place c.in-Restored.field-0 c.in-Restored.is walk.placed in
    let room : last + k ≤ 1000000 = omega (arith, c.recorded-recorded.ensures.steps, c.if-not-has_room.false) in
    let low : last ≤ n = omega (arith, c.recorded-recorded.ensures.steps, c.if-self-recorded.false) in
    let at : n ≡ last = at_the_last k n last room low placed in
    let new = c.new.ensures in
    let state = c.in_ok-machine-in-Restored.ensures ∙ c.machine.ensures ∙ walk.state in
    let there = last_is k c.sizes.ensures.some_steps w.kept w.recording w.worked c.recorded-recorded.ensures.run in
    let counted : n ≡ last + c.new.result.count = let zero_is = ap (λ (d : Drafted). d.count) new in omega (arith, at, zero_is) in
    let fresh : IsDraft w.kept.windows w.kept.pages k w.kept.timeline w.recording (record { state = c.in_ok-machine-in-Restored.machine; interval = no_interval; count = 0 }) = record {
      few = c.sizes.ensures.some_steps;
      state = state ∙ ap (machine_state w.kept) at ∙ sym there;
      steps = recorded_none w.kept.windows w.kept.pages w.kept.timeline last (last_point w.recording);
    } in
    record {
      within = walk.within;
      state = ap (λ (d : Drafted). d.state) new ∙ state;
      placed = (subst (λ (d : Drafted). IsDraft w.kept.windows w.kept.pages k w.kept.timeline w.recording d) (sym new) fresh, counted);
    }
