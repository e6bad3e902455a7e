use Rattle.std.proofs.Common.{arith, sym, ◌∙◌}
use Rattle.std.proofs.lemmas.Option.{slice_get_past}
use Rattle.sv8_time.specs.Schedule.{arrived}
use Rattle.sv8_time.proofs.ArrivedBytes.{arrived_byte, length-arrived}
use Rattle.sv8_time.proofs.arrivals.TimelineArrivals.byte_below.Goals as goal

pub returns-then-k-delivered : goal.returns-then-k-delivered
returns-then-k-delivered c =
    c.byte.ensures.value ∙ sym (arrived_byte c.args.before c.args.self.now c.args.k c.delivered.ensures.steps_rise (omega (arith, c.delivered.ensures.value, c.if-k-delivered.true)))

pub returns-else-k-delivered : goal.returns-else-k-delivered
returns-else-k-delivered c =
    let count = length-arrived c.args.before c.args.self.now in
    sym (slice_get_past (arrived c.args.before c.args.self.now) c.args.k (omega (arith, count, c.delivered.ensures.value, c.if-k-delivered.false)))
