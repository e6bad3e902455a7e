use Rattle.std.proofs.Common.{◌∙◌}
use Rattle.sv8_trace.proofs.trace.Trace.copy.Goals as goal

pub invariant_of-result : goal.invariant_of-result
invariant_of-result g c =
    let intervals = c.in_ok-share_all.ensures ∙ c.deref.ensures.value in
    rw (c.in_ok-copy.ensures.same, intervals, c.in_ok-copy-2.ensures) c.self.invariant
