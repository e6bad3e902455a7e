use Rattle.std.proofs.Common.{arith, ◌≡◌, ◌∙◌, ◌<◌, sym, ap, subst, [], length, length-set, get_or, slice_get, Some}
use Rattle.std.proofs.lemmas.Bool.{both_ways}
use Rattle.sv8_time.specs.Schedule.{has_input, cut_input, byte_count}
use Rattle.sv8_time.specs.Inputs.{joined, wholes, starts_of}
use Rattle.sv8_time.proofs.BlockPlaces.{apart_at, has_within, has_past, all_below, cut_within, cut_length, sorted_cut, counted_set, length_wholes}
use Rattle.sv8_time.proofs.inputs.Inputs.cut.Goals as goal

pub cut_in-requires-clause-present : goal.cut_in-requires-clause-present
cut_in-requires-clause-present c =
    let blocks = c.self.inside.blocks.items in
    let k = c.block_of-index.result in
    let within : k < length blocks = omega (arith, c.if-index-len.true, c.len.ensures, c.self.inside.blocks.ok.0) in
    let apart = apart_at c.args.step 0 k blocks c.self.invariant.in_blocks within (omega (arith, c.block_of-index.ensures)) in
    has_within c.args.step blocks k apart ∙ (ap (has_input c.args.step) c.self.view_is ∙ c.requires)

pub start_in-before-requires : goal.start_in-before-requires
start_in-before-requires c =
    let blocks = c.self.inside.blocks.items in
    let k = c.block_of-index.result in
    let within : k < length blocks = omega (arith, c.if-index-len.true, c.len.ensures, c.self.inside.blocks.ok.0) in
    omega (arith, within, ap length c.deref.ensures.value, length_wholes blocks c.self.inside.starts.items c.self.invariant.starts_are)

pub recount-self-inside-requires-clause-same : goal.recount-self-inside-requires-clause-same
recount-self-inside-requires-clause-same c =
    let blocks = c.self.inside.blocks.items in
    let k = c.block_of-index.result in
    let within : k < length blocks = omega (arith, c.if-index-len.true, c.len.ensures, c.self.inside.blocks.ok.0) in
    length_wholes blocks c.self.inside.starts.items c.self.invariant.starts_are
    ∙ sym (ap length (c.deref-then-index-len.ensures.value ∙ c.cut_in.ensures) ∙ length-set blocks k (cut_input c.args.step (get_or blocks k [])))

pub recount-self-inside-requires-clause-fits : goal.recount-self-inside-requires-clause-fits
recount-self-inside-requires-clause-fits c =
    let blocks = c.self.inside.blocks.items in
    let k = c.block_of-index.result in
    let within : k < length blocks = omega (arith, c.if-index-len.true, c.len.ensures, c.self.inside.blocks.ok.0) in
    let present = ap (has_input c.args.step) c.self.view_is ∙ c.requires in
    let sorted = sorted_cut c.args.step blocks c.self.inside.starts.items c.self.inside.total c.self.inside.count k c.self.invariant within c.block_of-index.ensures present in
    rw (c.deref-then-index-len.ensures.value, c.cut_in.ensures) sorted.fits

pub recount-self-inside-requires-clause-front : goal.recount-self-inside-requires-clause-front
recount-self-inside-requires-clause-front c =
    let blocks = c.self.inside.blocks.items in
    let k = c.block_of-index.result in
    let within : k < length blocks = omega (arith, c.if-index-len.true, c.len.ensures, c.self.inside.blocks.ok.0) in
    let g : slice_get c.self.inside.starts.items k ≡ Some c.start_in-before.result = subst (λ l. slice_get l k ≡ Some c.start_in-before.result) c.deref.ensures.value c.start_in-before.ensures in
    let counted = counted_set blocks c.self.inside.starts.items k c.start_in-before.result (cut_input c.args.step (get_or blocks k [])) c.self.invariant.starts_are g in
    rw (c.deref-then-index-len.ensures.value, c.cut_in.ensures) counted.front

pub recount-self-inside-requires-clause-sum : goal.recount-self-inside-requires-clause-sum
recount-self-inside-requires-clause-sum c =
    let blocks = c.self.inside.blocks.items in
    let k = c.block_of-index.result in
    let within : k < length blocks = omega (arith, c.if-index-len.true, c.len.ensures, c.self.inside.blocks.ok.0) in
    let g : slice_get c.self.inside.starts.items k ≡ Some c.start_in-before.result = subst (λ l. slice_get l k ≡ Some c.start_in-before.result) c.deref.ensures.value c.start_in-before.ensures in
    let counted = counted_set blocks c.self.inside.starts.items k c.start_in-before.result (cut_input c.args.step (get_or blocks k [])) c.self.invariant.starts_are g in
    rw (c.deref-then-index-len.ensures.value, c.cut_in.ensures) counted.sum

pub invariant_of-self : goal.invariant_of-self
invariant_of-self c =
    let blocks = c.self.inside.blocks.items in
    let k = c.block_of-index.result in
    let within : k < length blocks = omega (arith, c.if-index-len.true, c.len.ensures, c.self.inside.blocks.ok.0) in
    let present = ap (has_input c.args.step) c.self.view_is ∙ c.requires in
    let sorted = sorted_cut c.args.step blocks c.self.inside.starts.items c.self.inside.total c.self.inside.count k c.self.invariant within c.block_of-index.ensures present in
    let apart = apart_at c.args.step 0 k blocks c.self.invariant.in_blocks within (omega (arith, c.block_of-index.ensures)) in
    let fewer = cut_length c.args.step (joined blocks) c.self.invariant.rising present in
    let after : joined c.cut_in.new.blocks.items ≡ cut_input c.args.step (joined blocks) = ap joined c.cut_in.ensures ∙ cut_within c.args.step blocks k apart within in
    record {
      in_blocks = rw c.cut_in.ensures sorted.in_blocks;
      rising = rw c.cut_in.ensures sorted.rising;
      short = rw c.cut_in.ensures sorted.short;
      few = rw c.cut_in.ensures sorted.few;
      count_is = omega (arith, fewer, ap length after, c.self.invariant.count_is);
      starts_are = c.recount-self-inside.ensures.starts ∙ ap (λ l. starts_of 0 (wholes l)) c.deref-then-index-len.ensures.value;
      total_is = c.recount-self-inside.ensures.total ∙ ap (λ l. byte_count (wholes l)) c.deref-then-index-len.ensures.value;
    }

pub returns-then-index-len-clause-value : goal.returns-then-index-len-clause-value
returns-then-index-len-clause-value c =
    let blocks = c.self.inside.blocks.items in
    let k = c.block_of-index.result in
    let within : k < length blocks = omega (arith, c.if-index-len.true, c.len.ensures, c.self.inside.blocks.ok.0) in
    let apart = apart_at c.args.step 0 k blocks c.self.invariant.in_blocks within (omega (arith, c.block_of-index.ensures)) in
    ap joined c.cut_in.ensures ∙ (cut_within c.args.step blocks k apart within ∙ ap (cut_input c.args.step) c.self.view_is)

pub returns-then-index-len-clause-count : goal.returns-then-index-len-clause-count
returns-then-index-len-clause-count c =
    let blocks = c.self.inside.blocks.items in
    let k = c.block_of-index.result in
    let within : k < length blocks = omega (arith, c.if-index-len.true, c.len.ensures, c.self.inside.blocks.ok.0) in
    let present = ap (has_input c.args.step) c.self.view_is ∙ c.requires in
    let apart = apart_at c.args.step 0 k blocks c.self.invariant.in_blocks within (omega (arith, c.block_of-index.ensures)) in
    let fewer = cut_length c.args.step (joined blocks) c.self.invariant.rising present in
    omega (arith, fewer, ap length (ap joined c.cut_in.ensures ∙ cut_within c.args.step blocks k apart within), ap length c.self.view_is)

pub returns-else-index-len-clause-value : goal.returns-else-index-len-clause-value
returns-else-index-len-clause-value c =
    let blocks = c.self.inside.blocks.items in
    let past = all_below c.args.step 0 blocks c.self.invariant.in_blocks (omega (arith, c.if-index-len.false, c.len.ensures, c.block_of-index.ensures, c.self.inside.blocks.ok.0)) in
    absurd (both_ways (has_input c.args.step (joined blocks)) (sym (has_past c.args.step (joined blocks) past)) (ap (has_input c.args.step) c.self.view_is ∙ c.requires))
