use Rattle.std.proofs.Common.{rules, of_calls, ◌≡◌, ◌∙◌, sym, ap, subst, nat_lt}
use Rattle.std.proofs.lemmas.Fn.{always_returns_same}
use Rattle.std.specs.List.{prefix_len}
use Rattle.sv8_time.proofs.Parts.{prefix_from_point, parted_places}
use Rattle.sv8_time.proofs.InputPlaces.{inputs_below, prefix_map, parted_map}
use Rattle.sv8_time.specs.Order.{Rising}
use Rattle.sv8_time.specs.Schedule.{input_before}
use Rattle.sv8_time.specs.Inputs.{given, givens}
use Rattle.sv8_time.proofs.block.Block.count_below.Goals as goal

pub returns-clause-value : goal.returns-clause-value
returns-clause-value c =
    let items = c.as_slice.result.now in
    let same : givens items ≡ c.args.self.now = ap givens c.as_slice.ensures.value ∙ c.self.view_is in
    let rising : Rising input_before (givens items) = subst (λ l. Rising input_before (givens l)) (sym c.as_slice.ensures.value) c.self.invariant.rising in
    let parted = parted_map (λ i. nat_lt i.step c.args.step) given items (inputs_below c.args.step (givens items) rising) in
    let point = c.partition_point.ensures.partitioned (λ e. nat_lt e.step c.args.step) (always_returns_same _ _ _ (λ a r f h. search (rules, of_calls)))
    (parted_places (λ e. nat_lt e.step c.args.step) items parted) in
    prefix_from_point (λ e. nat_lt e.step c.args.step) items c.partition_point.result c.partition_point.ensures.bound point
    ∙ (sym (prefix_map (λ i. nat_lt i.step c.args.step) given items) ∙ ap (λ l. prefix_len (λ i. nat_lt i.step c.args.step) l) same)
