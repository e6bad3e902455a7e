use Rattle.std.proofs.Common.{arith, ◌≡◌, ◌∙◌, ◌+◌, ◌<◌, get_or, ap, subst, [], length, slice_get, Some}
use Rattle.sv8_time.specs.Schedule.{bytes_below}
use Rattle.sv8_time.specs.Inputs.{joined}
use Rattle.sv8_time.proofs.BlockPlaces.{apart_at, below_within, below_past, below_fits, all_below, length_wholes, start_of, count_wholes}
use Rattle.sv8_time.proofs.inputs.Inputs.delivered.Goals as goal

pub start_in-requires : goal.start_in-requires
start_in-requires c =
    omega (arith, c.in-Some.ensures.lookup.3.0, ap length c.deref.ensures.value, length_wholes c.self.inside.blocks.items c.self.inside.starts.items c.self.invariant.starts_are, ap length c.deref-in-Some.ensures.value)

sum : (c : goal.After-delivered) → c.start_in.result + c.delivered.result ≡ bytes_below c.args.before (joined c.self.inside.blocks.items)
sum c =
    let blocks = c.self.inside.blocks.items in
    let k = c.block_of-index.result in
    let within : k < length blocks = omega (arith, c.in-Some.ensures.lookup.3.0, ap length c.deref.ensures.value) in
    let apart = apart_at c.args.before 0 k blocks c.self.invariant.in_blocks within (omega (arith, c.block_of-index.ensures)) in
    let g : slice_get c.self.inside.starts.items k ≡ Some c.start_in.result = subst (λ l. slice_get l k ≡ Some c.start_in.result) c.deref-in-Some.ensures.value c.start_in.ensures in
    let s = start_of blocks c.self.inside.starts.items k c.start_in.result c.self.invariant.starts_are g in
    let d = c.delivered.ensures ∙ (ap (bytes_below c.args.before) (c.in-Some.ensures.lookup.3.1 [] ∙ ap (λ l. get_or l k []) c.deref.ensures.value)) in
    rw (s, d) (below_within c.args.before blocks k apart)

pub overflow_add-result : goal.overflow_add-result
overflow_add-result c = omega (arith, sum c, below_fits c.args.before (joined c.self.inside.blocks.items) c.self.invariant.short c.self.invariant.few)

pub returns-in-Some : goal.returns-in-Some
returns-in-Some c = sum c ∙ ap (bytes_below c.args.before) c.self.view_is

pub returns-in-None : goal.returns-in-None
returns-in-None c =
    let blocks = c.self.inside.blocks.items in
    let past = all_below c.args.before 0 blocks c.self.invariant.in_blocks (omega (arith, c.block_of-index.ensures, c.in-None.ensures.lookup.3, ap length c.deref.ensures.value)) in
    c.self.invariant.total_is ∙ (count_wholes blocks ∙ (below_past c.args.before (joined blocks) past ∙ ap (bytes_below c.args.before) c.self.view_is))
