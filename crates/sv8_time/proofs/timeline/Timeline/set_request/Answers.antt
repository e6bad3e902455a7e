use Rattle.std.proofs.Common.{◌≡◌, ◌∙◌, ap, sym, subst, None}
use Rattle.sv8_time.specs.Schedule.{Schedule, request_of, with_request, set_request_fault}
use Rattle.sv8_time.proofs.SoundEvents.{sound_request}
use Rattle.sv8_time.proofs.timeline.Timeline.set_request.Goals as goal

pub invariant_of-self-2 : goal.invariant_of-self-2
invariant_of-self-2 c =
    let s : Schedule = record { limit = c.self.inside.limit; pokes = c.self.inside.pokes; inputs = c.self.inside.inputs; requests = c.self.inside.requests } in
    let level = c.in_ok-checked.checked in
    let given : set_request_fault c.args.step level c.args.self.now ≡ None = subst (λ l. set_request_fault c.args.step l c.args.self.now ≡ None) (sym c.in_ok-checked.ensures.level) c.in_ok-checked.ensures.ok in
    let f : set_request_fault c.args.step level s ≡ None = subst (λ t. set_request_fault c.args.step level t ≡ None) (sym c.self.view_is) given in
    sound_request c.self.inside.marks c.mark.new.self s (request_of c.args.step level) c.put.new.self (λ n e. c.mark.ensures.kept n (c.in_ok-reach.ensures.kept n e)) c.mark.ensures.marked c.self.invariant f c.in_ok-put.ensures.value c.in_ok-put.ensures.count

pub returns-clause-value : goal.returns-clause-value
returns-clause-value c =
    let s : Schedule = record { limit = c.self.inside.limit; pokes = c.self.inside.pokes; inputs = c.self.inside.inputs; requests = c.self.inside.requests } in
    ap (λ rs. record s { requests = rs }) c.in_ok-put.ensures.value
    ∙ ap (with_request c.args.step c.in_ok-checked.checked) c.self.view_is
    ∙ ap (λ l. with_request c.args.step l c.args.self.now) c.in_ok-checked.ensures.level
