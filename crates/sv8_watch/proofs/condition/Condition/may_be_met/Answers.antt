use Rattle.std.proofs.Common.{◌∙◌, length, sym, ap, subst}
use Rattle.sv8_cpu.specs.State.{State}
use Rattle.sv8_cpu.specs.Run.{step}
use Rattle.sv8_cpu.specs.Trapping.{is_at_trap, is_at_trap_of}
use Rattle.sv8_watch.specs.Happening.{access_in}
use Rattle.sv8_watch.specs.Conditions.{loads, stores, accesses, is_touched, differ_from, meets, AreOld}
use Rattle.sv8_watch.proofs.Quiet.{no_trap_met, other_types_miss, led_elsewhere, led_elsewhere_of, stood_still, stood_still_of, pc_missed, same_count, same_end, event_missed, quiet_steps_miss}
use Rattle.sv8_watch.proofs.Accesses.{unaccessed}
use Rattle.sv8_watch.proofs.condition.Condition.may_be_met.Goals as goal

pub returns-in-Pc : goal.returns-in-Pc
returns-in-Pc g c = λ s made old e.
    ap (meets g.row.NW g.row.PAGES c.args.timeline.now c.args.n s) c.in-Pc.is
    ∙ pc_missed g.row.NW g.row.PAGES c.args.timeline.now c.args.n s c.args.before.now.pc c.in-Pc.address made.before.pc e

pub returns-in-Load : goal.returns-in-Load
returns-in-Load g c = λ s made old e.
    ap (meets g.row.NW g.row.PAGES c.args.timeline.now c.args.n s) c.in-Load.is
    ∙ unaccessed loads g.row.NW g.row.PAGES c.args.timeline.now c.args.n s c.in-Load.address c.in-Load.count c.args.watch.now.observations made.observations
    (ap (accesses loads c.in-Load.address c.in-Load.count) (sym (c.access_in.ensures ∙ ap access_in c.observations.ensures)) ∙ sym c.loads_any.ensures ∙ e)

pub returns-in-Store : goal.returns-in-Store
returns-in-Store g c = λ s made old e.
    ap (meets g.row.NW g.row.PAGES c.args.timeline.now c.args.n s) c.in-Store.is
    ∙ unaccessed stores g.row.NW g.row.PAGES c.args.timeline.now c.args.n s c.in-Store.address c.in-Store.count c.args.watch.now.observations made.observations
    (ap (accesses stores c.in-Store.address c.in-Store.count) (sym (c.access_in-in-Store.ensures ∙ ap access_in c.observations-in-Store.ensures)) ∙ sym c.stores_any.ensures ∙ e)

pub returns-then-before : goal.returns-then-before
returns-then-before g c = λ s made old e.
    let next = step g.row.NW g.row.PAGES c.args.timeline.now c.args.n s in
    no_trap_met g.row.NW g.row.PAGES c.args.timeline.now c.args.n s c.args.self c.in-Trap.is
    (led_elsewhere s next (ap (λ (x : State). is_at_trap x.processor) (sym made.state) ∙ sym c.is_at_trap.ensures ∙ e))

pub returns-else-before : goal.returns-else-before
returns-else-before g c = λ s made old e.
    let next = step g.row.NW g.row.PAGES c.args.timeline.now c.args.n s in
    no_trap_met g.row.NW g.row.PAGES c.args.timeline.now c.args.n s c.args.self c.in-Trap.is (stood_still s next (sym made.before.running ∙ e))

pub returns-then-before-2 : goal.returns-then-before-2
returns-then-before-2 g c = λ s made old e.
    let next = step g.row.NW g.row.PAGES c.args.timeline.now c.args.n s in
    let type = c.in-TrapType.trap_type in
    ap (meets g.row.NW g.row.PAGES c.args.timeline.now c.args.n s) c.in-TrapType.is
    ∙ other_types_miss type g.row.NW g.row.PAGES c.args.timeline.now c.args.n s
    (led_elsewhere_of type s next (ap (λ (x : State). is_at_trap_of type x.processor) (sym made.state) ∙ sym c.is_at_trap_of.ensures ∙ e))

pub returns-else-before-2 : goal.returns-else-before-2
returns-else-before-2 g c = λ s made old e.
    let next = step g.row.NW g.row.PAGES c.args.timeline.now c.args.n s in
    let type = c.in-TrapType.trap_type in
    ap (meets g.row.NW g.row.PAGES c.args.timeline.now c.args.n s) c.in-TrapType.is
    ∙ other_types_miss type g.row.NW g.row.PAGES c.args.timeline.now c.args.n s (stood_still_of type s next (sym made.before.running ∙ e))

pub returns-in-Input : goal.returns-in-Input
returns-in-Input g c = λ s made old e.
    ap (meets g.row.NW g.row.PAGES c.args.timeline.now c.args.n s) c.in-Input.is
    ∙ quiet_steps_miss.taken g.row.NW g.row.PAGES c.args.timeline.now c.args.n s
    (sym made.before.taken ∙ same_count c.args.before.now.taken c.taken.result e ∙ c.taken.ensures ∙ ap (λ (x : State). x.memory.taken) made.state)

pub returns-in-Output : goal.returns-in-Output
returns-in-Output g c = λ s made old e.
    let same = c.is_other_end.ensures e in
    ap (meets g.row.NW g.row.PAGES c.args.timeline.now c.args.n s) c.in-Output.is
    ∙ quiet_steps_miss.put g.row.NW g.row.PAGES c.args.timeline.now c.args.n s
    (same_end s.memory.output c.args.after.now.memory.output _ _ made.before.put c.output_end.ensures same.0 same.1 ∙ ap (λ (x : State). length x.memory.output) made.state)

pub returns-in-Event : goal.returns-in-Event
returns-in-Event g c = λ s made old e.
    ap (meets g.row.NW g.row.PAGES c.args.timeline.now c.args.n s) c.in-Event.is
    ∙ event_missed g.row.NW g.row.PAGES c.args.timeline.now c.args.n s (c.may_have_events.ensures.pokes e) (c.may_have_events.ensures.bytes e) (c.may_have_events.ensures.requests e)

pub returns-in-Touch : goal.returns-in-Touch
returns-in-Touch g c = λ s made old e.
    ap (meets g.row.NW g.row.PAGES c.args.timeline.now c.args.n s) c.in-Touch.is
    ∙ ap (is_touched c.in-Touch.address) (sym (c.touches.ensures ∙ made.touches))
    ∙ sym c.is_touched.ensures ∙ e

pub returns-in-Change : goal.returns-in-Change
returns-in-Change g c = λ s made old e.
    let next = step g.row.NW g.row.PAGES c.args.timeline.now c.args.n s in
    let bytes = subst (λ k. AreOld k c.args.old.now s) c.in-Change.is old in
    ap (meets g.row.NW g.row.PAGES c.args.timeline.now c.args.n s) c.in-Change.is
    ∙ ap (λ bs. differ_from bs c.in-Change.address next.memory.ram) (sym bytes)
    ∙ ap (λ (x : State). differ_from c.args.old.now c.in-Change.address x.memory.ram) (sym made.state)
    ∙ sym c.differ.ensures ∙ e
