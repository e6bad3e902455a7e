use Rattle.std.proofs.Common.{arith}
use Rattle.sv8_search.proofs.Faults.{lacking}
use Rattle.sv8_search.proofs.compare.differ.Goals as goal

pub returns-in-Err-clause-refused : goal.returns-in-Err-clause-refused
returns-in-Err-clause-refused g c =
    let now = c.if-at_now-gt-LAST_STEP.false in
    let before = c.if-at_before-gt-LAST_STEP.false in
    lacking c.args.at_now c.args.at_now c.args.at_before c.in-Err.fault (omega (arith, now)) (omega (arith, now)) (omega (arith, before)) c.in-Err.ensures.refused

pub returns-in-Err-machine-clause-refused : goal.returns-in-Err-machine-clause-refused
returns-in-Err-machine-clause-refused g c =
    let now = c.if-at_now-gt-LAST_STEP.false in
    let before = c.if-at_before-gt-LAST_STEP.false in
    lacking c.args.at_before c.args.at_now c.args.at_before c.in-Err-machine.fault (omega (arith, before)) (omega (arith, now)) (omega (arith, before))
    c.in-Err-machine.ensures.refused
