use Rattle.std.proofs.Common.{rules, of_calls, ◌≡◌, ◌∙◌, sym, subst, not}
use Rattle.std.proofs.lemmas.Fn.{always_returns_same}
use Rattle.sv8_time.proofs.Parts.{prefix_from_point, parted_places}
use Rattle.sv8_time.proofs.KeyPlaces.{keys_through}
use Rattle.sv8_time.specs.Order.{Rising, comes_before, place_before}
use Rattle.sv8_time.proofs.ordered.Ordered.count_through.Goals as goal

pub returns-clause-value : goal.returns-clause-value
returns-clause-value g c =
    let major = g.E.Keyed.major_of in
    let minor = g.E.Keyed.minor_of in
    let same : c.as_slice.result.now ≡ c.args.self.now = c.as_slice.ensures.value ∙ c.self.view_is in
    let rising : Rising (comes_before major minor) c.as_slice.result.now = subst (λ l. Rising (comes_before major minor) l) (sym c.as_slice.ensures.value) c.self.invariant in
    let point = c.partition_point.ensures.partitioned (λ e. not (place_before c.args.major c.args.minor (major e) (minor e))) (always_returns_same _ _ _ (λ a r f h. search (rules, of_calls)))
    (parted_places (λ e. not (place_before c.args.major c.args.minor (major e) (minor e))) c.as_slice.result.now (keys_through major minor c.args.major c.args.minor c.as_slice.result.now rising)) in
    rw (sym same) (prefix_from_point (λ e. not (place_before c.args.major c.args.minor (major e) (minor e))) c.as_slice.result.now c.partition_point.result c.partition_point.ensures.bound point)
