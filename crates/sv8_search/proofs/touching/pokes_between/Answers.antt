use Rattle.std.proofs.Common.{ap}
use Rattle.sv8_cpu.specs.Touching.{pokes_any}
use Rattle.sv8_search.proofs.touching.pokes_between.Goals as goal

pub returns-then-not-may_have_events_between : goal.returns-then-not-may_have_events_between
returns-then-not-may_have_events_between c = λ n low below.
    ap (pokes_any c.args.address c.args.count) (c.may_have_events_between.ensures.pokes c.if-not-may_have_events_between.true n low below)
