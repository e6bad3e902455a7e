use Rattle.std.proofs.Common.{arith, ◌≡◌, ◌∙◌, ◌-◌, sym, ap, subst, length, option_map, Some, nat_le}
use Rattle.std.specs.List.{slice_get}
use Rattle.std.proofs.lemmas.List.{length-map}
use Rattle.sv8_time.specs.Order.{Rising}
use Rattle.sv8_time.specs.Inputs.{given, givens, starts_of}
use Rattle.sv8_time.proofs.InputPlaces.{byte_in_last, last_start_le, no_byte_in, length_starts, starts_rise}
use Rattle.sv8_time.proofs.block.Block.byte.Goals as goal

pub count_started-count-requires : goal.count_started-count-requires
count_started-count-requires c =
    subst (λ l. Rising nat_le l) (sym (c.deref.ensures.value ∙ c.self.invariant.starts_are)) (starts_rise 0 (givens c.self.inside.entries.items))

pub returns-then-count-eq0 : goal.returns-then-count-eq0
returns-then-count-eq0 c =
    let same = c.deref.ensures.value ∙ (c.self.invariant.starts_are ∙ ap (λ l. starts_of 0 l) c.self.view_is) in
    no_byte_in c.args.index c.count_started-count.result c.deref.result.now c.args.self.now same c.count_started-count.ensures.value c.if-count-eq0.true

pub start_in-start-requires : goal.start_in-start-requires
start_in-start-requires c = omega (arith, c.count_started-count.ensures.bound, c.if-count-eq0.false, ap length c.deref.ensures.value, ap length c.deref-2.ensures.value)

pub overflow_sub-index : goal.overflow_sub-index
overflow_sub-index c =
    let same = c.deref.ensures.value ∙ (c.self.invariant.starts_are ∙ ap (λ l. starts_of 0 l) c.self.view_is) in
    let g : slice_get c.deref.result.now (c.count_started-count.result - 1) ≡ Some c.start_in-start.result =
    subst (λ l. slice_get l (c.count_started-count.result - 1) ≡ Some c.start_in-start.result) (c.deref-2.ensures.value ∙ sym c.deref.ensures.value) c.start_in-start.ensures in
    last_start_le c.args.index c.count_started-count.result c.start_in-start.result c.deref.result.now c.args.self.now same c.count_started-count.ensures.value c.if-count-eq0.false g

pub returns : goal.returns
returns c =
    let same = c.deref.ensures.value ∙ (c.self.invariant.starts_are ∙ ap (λ l. starts_of 0 l) c.self.view_is) in
    let g : slice_get c.deref.result.now (c.count_started-count.result - 1) ≡ Some c.start_in-start.result =
    subst (λ l. slice_get l (c.count_started-count.result - 1) ≡ Some c.start_in-start.result) (c.deref-2.ensures.value ∙ sym c.deref.ensures.value) c.start_in-start.ensures in
    let f : option_map (λ i. i.bytes) (slice_get c.args.self.now (c.count_started-count.result - 1)) ≡ Some c.bytes_in-bytes.result.now =
    subst (λ l. option_map (λ i. i.bytes) (slice_get l (c.count_started-count.result - 1)) ≡ Some c.bytes_in-bytes.result.now) (ap givens c.deref-3.ensures.value ∙ c.self.view_is) c.bytes_in-bytes.ensures in
    c.byte_at.ensures ∙ byte_in_last c.args.index c.count_started-count.result c.start_in-start.result c.deref.result.now c.args.self.now c.bytes_in-bytes.result.now same c.count_started-count.ensures.value c.if-count-eq0.false g f

pub bytes_in-bytes-requires : goal.bytes_in-bytes-requires
bytes_in-bytes-requires c =
    omega (arith, c.count_started-count.ensures.bound, c.if-count-eq0.false, ap length c.deref.ensures.value, ap length c.self.invariant.starts_are, length_starts 0 (givens c.self.inside.entries.items), length-map c.self.inside.entries.items given, ap length c.deref-3.ensures.value)
