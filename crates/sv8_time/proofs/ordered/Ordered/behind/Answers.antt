use Rattle.std.proofs.Common.{◌∙◌, subst}
use Rattle.std.proofs.lemmas.List.{take_rest}
use Rattle.sv8_time.specs.Order.{Rising, comes_before}
use Rattle.sv8_time.proofs.KeyPlaces.{behind_back}
use Rattle.sv8_time.proofs.ordered.Ordered.behind.Goals as goal

pub returns-clause-value : goal.returns-clause-value
returns-clause-value g c =
    let rising : Rising (comes_before g.E.Keyed.major_of g.E.Keyed.minor_of) c.args.self.now = subst (λ l. Rising (comes_before g.E.Keyed.major_of g.E.Keyed.minor_of) l) c.self.view_is c.self.invariant in
    take_rest c.deref.result.now c.count_up_to-first.result ∙ rw (c.deref.ensures.value ∙ c.self.view_is, c.count_up_to-first.ensures.value) (behind_back g.E.Keyed.major_of g.E.Keyed.minor_of c.args.major c.args.self.now rising)
