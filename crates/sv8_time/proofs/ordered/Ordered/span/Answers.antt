use Rattle.std.proofs.Common.{subst}
use Rattle.sv8_time.specs.Order.{Rising, comes_before}
use Rattle.sv8_time.proofs.KeyPlaces.{keys_between, keys_order}
use Rattle.sv8_time.proofs.ordered.Ordered.span.Goals as goal

pub returns-clause-order : goal.returns-clause-order
returns-clause-order g c = rw (c.count_below.ensures.value, c.count_up_to.ensures.value) (keys_order g.E.Keyed.major_of c.args.major c.args.self.now)

pub returns-clause-part : goal.returns-clause-part
returns-clause-part g c =
    rw (c.count_below.ensures.value, c.count_up_to.ensures.value)
    (keys_between g.E.Keyed.major_of g.E.Keyed.minor_of c.args.major c.args.self.now (subst (λ l. Rising (comes_before g.E.Keyed.major_of g.E.Keyed.minor_of) l) c.self.view_is c.self.invariant))
