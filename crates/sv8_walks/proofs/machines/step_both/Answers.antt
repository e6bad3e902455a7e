use Rattle.std.proofs.Common.{refl, sym}
use Rattle.sv8_walks.proofs.Ordinary.{skipped, stopped}
use Rattle.sv8_walks.proofs.machines.step_both.Goals as goal

pub returns-then-not-is_running-clause-own : goal.returns-then-not-is_running-clause-own
returns-then-not-is_running-clause-own g c =
    let quiet = c.if-may_have_events.ensures in
    stopped _ _ _ _ c.args.parts.now.processor c.args.parts.now.memory (quiet.pokes refl) (quiet.requests refl) (sym c.if-not-is_running.ensures)

pub returns-then-not-is_running-clause-others : goal.returns-then-not-is_running-clause-others
returns-then-not-is_running-clause-others g c =
    let quiet = c.if-may_have_events-2.ensures in
    stopped _ _ _ _ c.args.parts.now.processor c.args.other.now.memory (quiet.pokes refl) (quiet.requests refl) (sym c.if-not-is_running.ensures)

pub returns-then-annul-clause-own : goal.returns-then-annul-clause-own
returns-then-annul-clause-own g c =
    rw (c.skip_slot.ensures, c.in_ok-count_down_both.ensures.own) (skipped _ _ _ _ _ _ (c.in_ok-is_calm.ensures.calm c.if-not-branch.false _ _ (c.if-may_have_events.ensures.pokes refl, c.if-may_have_events.ensures.requests refl)) (sym c.if-annul.ensures))

pub returns-then-annul-clause-others : goal.returns-then-annul-clause-others
returns-then-annul-clause-others g c =
    rw (c.skip_slot.ensures, c.in_ok-count_down_both.ensures.others) (skipped _ _ _ _ _ _ (c.in_ok-is_calm-2.ensures.calm c.if-not-branch-2.false _ _ (c.if-may_have_events-2.ensures.pokes refl, c.if-may_have_events-2.ensures.requests refl)) (sym c.if-annul.ensures))
