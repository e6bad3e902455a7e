use Rattle.std.proofs.Common.{arith, ◌∙◌, ◌-◌, ◌<◌, ap, length, [], ◌∷◌}
use Rattle.std.proofs.lemmas.List.{length-append}
use Rattle.sv8_time.specs.Inputs.{joined}
use Rattle.sv8_time.proofs.BlockPlaces.{joined_more, spread_more}
use Rattle.sv8_time.proofs.inputs.grow.Goals as goal

pub loop-alloc-smaller : goal.loop-alloc-smaller
loop-alloc-smaller c =
    let g : c.args.wanted - length c.add_block.new.blocks.items < c.args.wanted - length c.loop-alloc.blocks.items =
    omega (arith, ap length c.in_ok-add_block.ensures.ok, length-append c.loop-alloc.blocks.items ([] ∷ []), c.loop-alloc-test.true, c.len.ensures, c.loop-alloc.blocks.ok.0) in
    g

pub loop-alloc-preserved : goal.loop-alloc-preserved
loop-alloc-preserved c = record {
  same = ap joined c.in_ok-add_block.ensures.ok ∙ (joined_more c.loop-alloc.blocks.items ∙ c.loop-alloc.invariant.same);
  kept = λ count h. rw (c.in_ok-add_block.ensures.ok, c.in_ok-add_block.ensures.starts) (spread_more c.loop-alloc.blocks.items c.loop-alloc.starts.items c.args.total count (c.loop-alloc.invariant.kept count h));
}

pub returns-in_err-add_block-clause-same : goal.returns-in_err-add_block-clause-same
returns-in_err-add_block-clause-same c = ap joined c.in_err-add_block.ensures.err ∙ c.loop-alloc.invariant.same

pub returns-in_err-add_block-clause-kept : goal.returns-in_err-add_block-clause-kept
returns-in_err-add_block-clause-kept c = λ count h. rw (c.in_err-add_block.ensures.err, c.in_err-add_block.ensures.starts_kept) (c.loop-alloc.invariant.kept count h)
