use Rattle.std.proofs.Common.{◌∙◌, ◌<◌, ◌≤◌, ◌+◌, refl, arith}
use Rattle.sv8_walks.proofs.Together.{either}
use Rattle.sv8_search.specs.Comparing.{AreWalks}
use Rattle.sv8_search.specs.Search.{IsWalked}
use Rattle.sv8_search.proofs.Parting.{alike_at, same_outside, unlike_at, window_at}
use Rattle.sv8_search.proofs.Walked.{on_any_err, walked_recorded, walked_made, walked_stopped, walked_abandoned, unmade_stopped}
use Rattle.sv8_search.proofs.compare.go_on.Goals as goal

pub returns-in_err-pass-clause-stopped : goal.returns-in_err-pass-clause-stopped
returns-in_err-pass-clause-stopped g c =
    let pos = c.sizes.ensures.some_steps in
    let n = c.args.both.now.walk.step in
    let m = c.walk_in_lockstep.new.walk.step in
    let walked = c.in_ok-walk_in_lockstep.ensures in
    let below : m < c.args.to = omega (arith, c.if-to-step.false, c.step.ensures) in
    let high : m ≤ c.args.to = omega (arith, below) in
    let now : IsWalked g.row.K n m c.args.now.now c.walk_in_lockstep.new.now = walked_recorded walked.kept.0 walked.recorded.0 walked.within.0 walked.counted in
    let before : IsWalked g.row.K n m c.args.before.now c.walk_in_lockstep.new.before = walked_recorded walked.kept.1 walked.recorded.1 walked.within.1 walked.others_counted in
    on_any_err c.from_residual-in_err-pass.result
    (walked_stopped pos walked.begun high now (unmade_stopped below c.in_err-pass.ensures.unmade), walked_abandoned pos walked.begun high before)

pub returns-in_err-pass-2-clause-stopped : goal.returns-in_err-pass-2-clause-stopped
returns-in_err-pass-2-clause-stopped g c =
    let pos = c.sizes.ensures.some_steps in
    let n = c.args.both.now.walk.step in
    let m = c.walk_in_lockstep.new.walk.step in
    let walked = c.in_ok-walk_in_lockstep.ensures in
    let below : m < c.args.to = omega (arith, c.if-to-step.false, c.step.ensures) in
    let high : m ≤ c.args.to = omega (arith, below) in
    let low : n ≤ m + 1 = omega (arith, walked.begun) in
    let now : IsWalked g.row.K n m c.args.now.now c.walk_in_lockstep.new.now = walked_recorded walked.kept.0 walked.recorded.0 walked.within.0 walked.counted in
    let before : IsWalked g.row.K n m c.args.before.now c.walk_in_lockstep.new.before = walked_recorded walked.kept.1 walked.recorded.1 walked.within.1 walked.others_counted in
    on_any_err c.from_residual-in_err-pass-2.result (
      walked_abandoned pos low (omega (arith, below)) (walked_made pos walked.begun now refl refl c.in_ok-pass.ensures.made),
      walked_stopped pos walked.begun high before (unmade_stopped below c.in_err-pass-2.ensures.unmade),
    )

pub returns-clause-alike : goal.returns-clause-alike
returns-clause-alike g c =
    let k = g.row.K in
    let m = c.walk_in_lockstep.new.walk.step in
    let now = c.args.now.now in
    let before = c.args.before.now in
    let walked = c.in_ok-walk_in_lockstep.ensures in
    let own = c.in_ok-pass.ensures in
    let other = c.in_ok-pass-2.ensures in
    let w = c.window-window.result in
    let same_now = own.made.kept ∙ walked.kept.0 in
    let same_before = other.made.kept ∙ walked.kept.1 in
    let walks : AreWalks k c.pass.new.bench c.pass-2.new.bench c.pass.new.self.step (record { walk = c.pass.new.self; other = c.pass-2.new.self }) =
    record { now_walk = own.walk; before_walk = other.walk; now_step = refl; before_step = omega (arith, own.step, other.step, walked.together) } in
    let cwp = window_at k w now before c.walk_in_lockstep.new.now c.walk_in_lockstep.new.before (record { walk = c.walk_in_lockstep.new.walk; other = c.walk_in_lockstep.new.other_walk })
    (record { now_walk = walked.walk; before_walk = walked.others_walk; now_step = refl; before_step = walked.together }) walked.kept.0 walked.kept.1 c.window-window.ensures.value in
    let outside = same_outside k g.row.NW m w now before _ _ _ c.sizes.ensures.windows c.sizes-2.ensures.windows c.sizes.ensures.some_windows
    c.window-window.ensures.in_range walks same_now same_before own.step cwp (walked.alike.processors m walked.begun (omega arith)) in
    either c.are_alike_after.result (λ same. alike_at k now before _ _ _ walks same_now same_before (same outside))
    (unlike_at k now before _ _ _ walks same_now same_before) c.are_alike_after.ensures

pub returns-clause-walked : goal.returns-clause-walked
returns-clause-walked g c =
    let pos = c.sizes.ensures.some_steps in
    let n = c.args.both.now.walk.step in
    let m = c.walk_in_lockstep.new.walk.step in
    let walked = c.in_ok-walk_in_lockstep.ensures in
    let own = c.in_ok-pass.ensures in
    let now : IsWalked g.row.K n m c.args.now.now c.walk_in_lockstep.new.now = walked_recorded walked.kept.0 walked.recorded.0 walked.within.0 walked.counted in
    let before : IsWalked g.row.K n m c.args.before.now c.walk_in_lockstep.new.before = walked_recorded walked.kept.1 walked.recorded.1 walked.within.1 walked.others_counted in
    (walked_made pos walked.begun now refl own.step own.made, walked_made pos walked.begun before walked.together own.step c.in_ok-pass-2.ensures.made)
