use Rattle.std.proofs.Common.{◌+◌, ap, arith}
use Rattle.sv8_cpu.specs.Touching.{pokes_any}
use Rattle.sv8_notes.proofs.Common.{flag_none}
use Rattle.sv8_search.specs.Touching.{pokes_at}
use Rattle.sv8_search.proofs.touching.flag_poking.Goals as goal

pub returns-then-not-may_have_events_between : goal.returns-then-not-may_have_events_between
returns-then-not-may_have_events_between c =
    flag_none c.args.flags.now (λ i. pokes_at c.args.timeline.now c.args.address c.args.count (c.args.from + i)) (λ i inside.
    ap (pokes_any c.args.address c.args.count) (c.may_have_events_between.ensures.pokes c.if-not-may_have_events_between.true (c.args.from + i) (omega arith) (omega arith)))
