use Rattle.std.proofs.Common.{rules, ◌∙◌, of_calls, ◌≡◌, sym, subst}
use Rattle.std.proofs.lemmas.Fn.{always_returns_same}
use Rattle.sv8_time.proofs.Parts.{prefix_from_point, parted_places, parted_before}
use Rattle.sv8_time.proofs.Orders.{key_order}
use Rattle.sv8_time.specs.Order.{Rising, comes_before}
use Rattle.sv8_time.proofs.ordered.Ordered.position.Goals as goal

pub returns-clause-value : goal.returns-clause-value
returns-clause-value g c =
    let major = g.E.Keyed.major_of in
    let minor = g.E.Keyed.minor_of in
    let k = c.args.entry in
    let same : c.as_slice.result.now ≡ c.args.self.now = c.as_slice.ensures.value ∙ c.self.view_is in
    let rising : Rising (comes_before major minor) c.as_slice.result.now = subst (λ l. Rising (comes_before major minor) l) (sym c.as_slice.ensures.value) c.self.invariant in
    let point = c.partition_point.ensures.partitioned (λ e. comes_before major minor e k) (always_returns_same _ _ _ (λ a r f h. search (rules, of_calls)))
    (parted_places (λ e. comes_before major minor e k) c.as_slice.result.now (parted_before (comes_before major minor) (key_order major minor) k c.as_slice.result.now rising)) in
    rw (sym same) (prefix_from_point (λ e. comes_before major minor e k) c.as_slice.result.now c.partition_point.result c.partition_point.ensures.bound point)
