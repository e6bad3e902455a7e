use Rattle.std.proofs.Common.{◌∙◌, sym, subst}
use Rattle.sv8_time.specs.Order.{Rising, comes_before}
use Rattle.sv8_time.proofs.KeyPlaces.{key_stands, key_misses}
use Rattle.sv8_time.proofs.ordered.Ordered.place.Goals as goal

pub returns-then-stands_at : goal.returns-then-stands_at
returns-then-stands_at g c =
    key_stands g.E.Keyed.major_of g.E.Keyed.minor_of c.args.entry c.args.self.now c.position-index.result (subst (λ l. Rising (comes_before g.E.Keyed.major_of g.E.Keyed.minor_of) l) c.self.view_is c.self.invariant)
    c.position-index.ensures.value (sym c.stands_at.ensures ∙ c.if-stands_at.true)

pub returns-else-stands_at : goal.returns-else-stands_at
returns-else-stands_at g c =
    key_misses g.E.Keyed.major_of g.E.Keyed.minor_of c.args.entry c.args.self.now c.position-index.result (subst (λ l. Rising (comes_before g.E.Keyed.major_of g.E.Keyed.minor_of) l) c.self.view_is c.self.invariant)
    c.position-index.ensures.value c.position-index.ensures.bound (sym c.stands_at.ensures ∙ c.if-stands_at.false)
