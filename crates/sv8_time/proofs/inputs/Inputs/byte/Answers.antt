use Rattle.std.proofs.Common.{arith, ◌≡◌, ◌∙◌, ◌-◌, ◌<◌, sym, ap, subst, length, Some, nat_le}
use Rattle.std.specs.List.{slice_get}
use Rattle.sv8_time.specs.Order.{Rising}
use Rattle.sv8_time.specs.Schedule.{input_bytes}
use Rattle.sv8_time.specs.Inputs.{wholes}
use Rattle.sv8_time.proofs.InputPlaces.{byte_in_last, last_start_le, no_byte_in, starts_rise}
use Rattle.sv8_time.proofs.BlockPlaces.{bytes_wholes, length_wholes, whole_at}
use Rattle.sv8_time.proofs.inputs.Inputs.byte.Goals as goal

pub count_started-count-requires : goal.count_started-count-requires
count_started-count-requires c =
    subst (λ l. Rising nat_le l) (sym (c.deref.ensures.value ∙ c.self.invariant.starts_are)) (starts_rise 0 (wholes c.self.inside.blocks.items))

pub returns-then-count-eq0 : goal.returns-then-count-eq0
returns-then-count-eq0 c =
    let blocks = c.self.inside.blocks.items in
    no_byte_in c.args.index c.count_started-count.result c.deref.result.now (wholes blocks) (c.deref.ensures.value ∙ c.self.invariant.starts_are) c.count_started-count.ensures.value c.if-count-eq0.true
    ∙ ap (λ l. slice_get l c.args.index) (bytes_wholes blocks ∙ ap input_bytes c.self.view_is)

pub start_in-start-requires : goal.start_in-start-requires
start_in-start-requires c = omega (arith, c.count_started-count.ensures.bound, c.if-count-eq0.false, ap length c.deref.ensures.value, ap length c.deref-2.ensures.value)

pub index-block-requires : goal.index-block-requires
index-block-requires c =
    let within = c.count_started-count.ensures.bound in
    omega (arith, within, c.if-count-eq0.false, ap length c.deref.ensures.value, length_wholes c.self.inside.blocks.items c.self.inside.starts.items c.self.invariant.starts_are, c.self.inside.blocks.ok.0)

pub overflow_sub-index : goal.overflow_sub-index
overflow_sub-index c =
    let g : slice_get c.deref.result.now (c.count_started-count.result - 1) ≡ Some c.start_in-start.result =
    subst (λ l. slice_get l (c.count_started-count.result - 1) ≡ Some c.start_in-start.result) (c.deref-2.ensures.value ∙ sym c.deref.ensures.value) c.start_in-start.ensures in
    last_start_le c.args.index c.count_started-count.result c.start_in-start.result c.deref.result.now (wholes c.self.inside.blocks.items) (c.deref.ensures.value ∙ c.self.invariant.starts_are) c.count_started-count.ensures.value c.if-count-eq0.false g

pub returns : goal.returns
returns c =
    let blocks = c.self.inside.blocks.items in
    let n = c.count_started-count.result - 1 in
    let g : slice_get c.deref.result.now n ≡ Some c.start_in-start.result = subst (λ l. slice_get l n ≡ Some c.start_in-start.result) (c.deref-2.ensures.value ∙ sym c.deref.ensures.value) c.start_in-start.ensures in
    let within : n < length blocks =
    omega (arith, c.count_started-count.ensures.bound, c.if-count-eq0.false, ap length c.deref.ensures.value, length_wholes blocks c.self.inside.starts.items c.self.invariant.starts_are) in
    let f = whole_at blocks n c.index-block.result.now within c.index-block.ensures in
    c.byte.ensures
    ∙ (byte_in_last c.args.index c.count_started-count.result c.start_in-start.result c.deref.result.now (wholes blocks) (input_bytes c.index-block.result.now) (c.deref.ensures.value ∙ c.self.invariant.starts_are) c.count_started-count.ensures.value c.if-count-eq0.false g f
    ∙ ap (λ l. slice_get l c.args.index) (bytes_wholes blocks ∙ ap input_bytes c.self.view_is))
