use Rattle.std.proofs.Common.{◌≡◌, ◌+◌, ◌-◌, arith}
use Rattle.sv8_commands.proofs.PutLemmas.{gains-failed, gained-none}
use Rattle.sv8_monitor.specs.Events.{step_events}
use Rattle.sv8_monitor.proofs.Counted.{counted-cut, counted-next}
use Rattle.sv8_monitor.proofs.event_lines.put_events.Goals as goal

pub loop-step-init : goal.loop-step-init
loop-step-init g c = let none : c.args.from - c.args.from ≡ 0 = omega arith in rw none (gained-none _ _)

pub returns-in_err-put_step : goal.returns-in_err-put_step
returns-in_err-put_step g c =
    let from = c.args.from in
    let step = c.loop-step.step in
    gains-failed c.from_residual.result _ _ _ _ _ c.from_residual.ensures.0 (counted-cut (step_events c.args.timeline.now) from (c.args.to - from) (step - from) step _ _ _ _ _ (omega arith) (omega arith) c.loop-step.invariant c.in_err-put_step.ensures)

pub loop-step-preserved : goal.loop-step-preserved
loop-step-preserved g c =
    let from = c.args.from in
    let step = c.loop-step.step in
    let more : step + 1 - from ≡ (step - from) + 1 = omega arith in
    rw more (counted-next (step_events c.args.timeline.now) from (step - from) step _ _ _ _ _ _ (omega arith) c.loop-step.invariant c.in_ok-put_step.ensures)
