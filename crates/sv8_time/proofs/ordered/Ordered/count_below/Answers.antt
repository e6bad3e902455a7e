use Rattle.std.proofs.Common.{rules, of_calls, ◌≡◌, ◌∙◌, sym, subst, nat_lt}
use Rattle.std.proofs.lemmas.Fn.{always_returns_same}
use Rattle.sv8_time.proofs.Parts.{prefix_from_point, parted_places}
use Rattle.sv8_time.proofs.KeyPlaces.{keys_below}
use Rattle.sv8_time.specs.Order.{Rising, comes_before}
use Rattle.sv8_time.proofs.ordered.Ordered.count_below.Goals as goal

pub returns-clause-value : goal.returns-clause-value
returns-clause-value g c =
    let major = g.E.Keyed.major_of in
    let minor = g.E.Keyed.minor_of in
    let same : c.as_slice.result.now ≡ c.args.self.now = c.as_slice.ensures.value ∙ c.self.view_is in
    let rising : Rising (comes_before major minor) c.as_slice.result.now = subst (λ l. Rising (comes_before major minor) l) (sym c.as_slice.ensures.value) c.self.invariant in
    let point = c.partition_point.ensures.partitioned (λ e. nat_lt (major e) c.args.major) (always_returns_same _ _ _ (λ a r f h. search (rules, of_calls)))
    (parted_places (λ e. nat_lt (major e) c.args.major) c.as_slice.result.now (keys_below major minor c.args.major c.as_slice.result.now rising)) in
    rw (sym same) (prefix_from_point (λ e. nat_lt (major e) c.args.major) c.as_slice.result.now c.partition_point.result c.partition_point.ensures.bound point)
