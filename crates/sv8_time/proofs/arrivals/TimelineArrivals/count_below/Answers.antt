use Rattle.std.proofs.Common.{sym, ◌∙◌}
use Rattle.sv8_time.proofs.ArrivedBytes.{length-arrived}
use Rattle.sv8_time.proofs.arrivals.TimelineArrivals.count_below.Goals as goal

pub returns : goal.returns
returns c = c.delivered.ensures.value ∙ sym (length-arrived c.args.before c.args.self.now)
