use Rattle.std.proofs.Common.{rules, ◌≡◌, ◌/◌, min, length, get_or, ap, ap₂, sym, ◌∙◌, subst}
use Rattle.std.proofs.Math.Nat.{mul-div_cancel_left}
use Rattle.sv8_cpu.specs.State.{State}
use Rattle.sv8_history.specs.Growing.{restored}
use Rattle.sv8_trace.specs.Checkpoints.{IsCheckpoint}
use Rattle.sv8_trace.specs.Recording.{Recording, blank}
use Rattle.sv8_trace.proofs.trace.Trace.checkpoint.Goals as goal

pub returns : goal.returns
returns g c =
    let k = g.row.K in
    let inv = c.self.invariant in
    let points = ap (λ (r : Recording). r.points) c.self.view_is in
    let count = ap (λ (r : Recording). length r.intervals) c.self.view_is in
    let long : c.len-count.result ≡ length c.self.inside.intervals.items = search rules in
    let index : c.min-index.result ≡ min (length c.args.self.now.intervals) (c.args.step / k) = c.min-index.ensures ∙ ap (λ n. min n (c.args.step / k)) (long ∙ count) in
    let same : restored k (length c.args.self.now.intervals) c.args.step / k ≡ min (length c.args.self.now.intervals) (c.args.step / k) = mul-div_cancel_left (min (length c.args.self.now.intervals) (c.args.step / k)) inv.3 in
    subst (λ (s : State). IsCheckpoint s c.checkpoint.result) (ap₂ (λ ps i. get_or ps i blank) points (index ∙ sym same)) c.checkpoint.ensures
