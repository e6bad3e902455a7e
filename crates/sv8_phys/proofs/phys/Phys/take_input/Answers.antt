use Rattle.std.proofs.Common.{ap}
use Rattle.sv8_model.specs.Outside.{Outside}
use Rattle.sv8_phys.proofs.Calls.{takes}
use Rattle.sv8_phys.proofs.phys.Phys.take_input.Goals as goal

pub returns-clause-memory : goal.returns-clause-memory
returns-clause-memory g c =
    takes c.args.self.now c.take_input_noted.new.self (g.A.Arrivals.arrived c.args.before c.args.arrivals.now) c.in-Ok.ensures.others c.requires c.in-Ok.ensures.delivered
    (ap (λ (o : Outside). o.waiting) c.in-Ok.ensures.ok.outside)
