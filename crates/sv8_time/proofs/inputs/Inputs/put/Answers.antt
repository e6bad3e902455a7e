use Rattle.std.proofs.Common.{arith, ◌≡◌, ◌∙◌, ◌<◌, ◌+◌, sym, ap, subst, [], length, length-set, get_or, cond, slice_get, Some}
use Rattle.sv8_time.specs.Schedule.{input_of, has_input, put_input, byte_count}
use Rattle.sv8_time.specs.Inputs.{joined, wholes, starts_of}
use Rattle.sv8_time.proofs.BlockPlaces.{apart_at, has_within, part_le, put_within, put_length, sorted_put, counted_set, length_wholes}
use Rattle.sv8_time.proofs.inputs.Inputs.put.Goals as goal

pub put_in-requires-clause-room : goal.put_in-requires-clause-room
put_in-requires-clause-room c =
    let blocks = c.grow.new.blocks.items in
    let k = c.block_of-index.result in
    let s = c.in_ok-grow.ensures.kept c.self.inside.count c.self.invariant in
    let within : k < length blocks = omega (arith, c.in_ok-grow.ensures.ok) in
    let apart = apart_at c.args.step 0 k blocks s.in_blocks within (omega (arith, c.block_of-index.ensures)) in
    let view = c.in_ok-grow.ensures.same ∙ c.self.view_is in
    λ absent.
    let room = c.requires.room (ap (has_input c.args.step) (sym view) ∙ (sym (has_within c.args.step blocks k apart) ∙ absent)) in
    omega (arith, part_le c.args.step blocks k apart, ap length view)

pub start_in-before-requires : goal.start_in-before-requires
start_in-before-requires c =
    let s = c.in_ok-grow.ensures.kept c.self.inside.count c.self.invariant in
    omega (arith, c.in_ok-grow.ensures.ok, ap length c.deref.ensures.value, length_wholes c.grow.new.blocks.items c.grow.new.starts.items s.starts_are)

pub recount-self-inside-requires-clause-same : goal.recount-self-inside-requires-clause-same
recount-self-inside-requires-clause-same c =
    let blocks = c.grow.new.blocks.items in
    let s = c.in_ok-grow.ensures.kept c.self.inside.count c.self.invariant in
    length_wholes blocks c.grow.new.starts.items s.starts_are
    ∙ sym (ap length (c.deref-2.ensures.value ∙ c.in_ok-put_in.ensures.ok) ∙ length-set blocks c.block_of-index.result (put_input (input_of c.args.step c.args.bytes.now) (get_or blocks c.block_of-index.result [])))

pub recount-self-inside-requires-clause-fits : goal.recount-self-inside-requires-clause-fits
recount-self-inside-requires-clause-fits c =
    let blocks = c.grow.new.blocks.items in
    let k = c.block_of-index.result in
    let s = c.in_ok-grow.ensures.kept c.self.inside.count c.self.invariant in
    let within : k < length blocks = omega (arith, c.in_ok-grow.ensures.ok) in
    let view = c.in_ok-grow.ensures.same ∙ c.self.view_is in
    let sorted = sorted_put c.args.step c.args.bytes.now blocks c.grow.new.starts.items c.self.inside.total c.self.inside.count k s within c.block_of-index.ensures c.requires.short (rw view c.requires.room) in
    rw (c.deref-2.ensures.value, c.in_ok-put_in.ensures.ok) sorted.fits

pub recount-self-inside-requires-clause-front : goal.recount-self-inside-requires-clause-front
recount-self-inside-requires-clause-front c =
    let blocks = c.grow.new.blocks.items in
    let k = c.block_of-index.result in
    let s = c.in_ok-grow.ensures.kept c.self.inside.count c.self.invariant in
    let g : slice_get c.grow.new.starts.items k ≡ Some c.start_in-before.result = subst (λ l. slice_get l k ≡ Some c.start_in-before.result) c.deref.ensures.value c.start_in-before.ensures in
    let counted = counted_set blocks c.grow.new.starts.items k c.start_in-before.result (put_input (input_of c.args.step c.args.bytes.now) (get_or blocks k [])) s.starts_are g in
    rw (c.deref-2.ensures.value, c.in_ok-put_in.ensures.ok) counted.front

pub recount-self-inside-requires-clause-sum : goal.recount-self-inside-requires-clause-sum
recount-self-inside-requires-clause-sum c =
    let blocks = c.grow.new.blocks.items in
    let k = c.block_of-index.result in
    let s = c.in_ok-grow.ensures.kept c.self.inside.count c.self.invariant in
    let g : slice_get c.grow.new.starts.items k ≡ Some c.start_in-before.result = subst (λ l. slice_get l k ≡ Some c.start_in-before.result) c.deref.ensures.value c.start_in-before.ensures in
    let counted = counted_set blocks c.grow.new.starts.items k c.start_in-before.result (put_input (input_of c.args.step c.args.bytes.now) (get_or blocks k [])) s.starts_are g in
    rw (c.deref-2.ensures.value, c.in_ok-put_in.ensures.ok) counted.sum

pub invariant_of-self-2 : goal.invariant_of-self-2
invariant_of-self-2 c =
    let blocks = c.grow.new.blocks.items in
    let k = c.block_of-index.result in
    let s = c.in_ok-grow.ensures.kept c.self.inside.count c.self.invariant in
    let within : k < length blocks = omega (arith, c.in_ok-grow.ensures.ok) in
    let view = c.in_ok-grow.ensures.same ∙ c.self.view_is in
    let sorted = sorted_put c.args.step c.args.bytes.now blocks c.grow.new.starts.items c.self.inside.total c.self.inside.count k s within c.block_of-index.ensures c.requires.short (rw view c.requires.room) in
    let apart = apart_at c.args.step 0 k blocks s.in_blocks within (omega (arith, c.block_of-index.ensures)) in
    let after : joined c.put_in.new.blocks.items ≡ put_input (input_of c.args.step c.args.bytes.now) (joined blocks) = ap joined c.in_ok-put_in.ensures.ok ∙ put_within c.args.step c.args.bytes.now blocks k apart within in
    let many : length (joined c.put_in.new.blocks.items) ≡ cond (has_input c.args.step c.args.self.now) (length c.args.self.now) (length c.args.self.now + 1) =
    ap length after ∙ rw (sym view) (put_length c.args.step c.args.bytes.now (joined blocks) s.rising) in
    record {
      in_blocks = rw c.in_ok-put_in.ensures.ok sorted.in_blocks;
      rising = rw c.in_ok-put_in.ensures.ok sorted.rising;
      short = rw c.in_ok-put_in.ensures.ok sorted.short;
      few = rw c.in_ok-put_in.ensures.ok sorted.few;
      count_is = c.count_with-count.ensures ∙ sym many;
      starts_are = c.recount-self-inside.ensures.starts ∙ ap (λ l. starts_of 0 (wholes l)) c.deref-2.ensures.value;
      total_is = c.recount-self-inside.ensures.total ∙ ap (λ l. byte_count (wholes l)) c.deref-2.ensures.value;
    }

pub returns-clause-value : goal.returns-clause-value
returns-clause-value c =
    let blocks = c.grow.new.blocks.items in
    let k = c.block_of-index.result in
    let s = c.in_ok-grow.ensures.kept c.self.inside.count c.self.invariant in
    let within : k < length blocks = omega (arith, c.in_ok-grow.ensures.ok) in
    let view = c.in_ok-grow.ensures.same ∙ c.self.view_is in
    let apart = apart_at c.args.step 0 k blocks s.in_blocks within (omega (arith, c.block_of-index.ensures)) in
    ap joined c.in_ok-put_in.ensures.ok ∙ (put_within c.args.step c.args.bytes.now blocks k apart within ∙ ap (put_input (input_of c.args.step c.args.bytes.now)) view)

pub returns-clause-count : goal.returns-clause-count
returns-clause-count c =
    let blocks = c.grow.new.blocks.items in
    let s = c.in_ok-grow.ensures.kept c.self.inside.count c.self.invariant in
    let view = c.in_ok-grow.ensures.same ∙ c.self.view_is in
    ap length (returns-clause-value c) ∙ rw (sym view) (put_length c.args.step c.args.bytes.now (joined blocks) s.rising)
