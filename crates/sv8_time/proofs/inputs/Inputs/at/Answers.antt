use Rattle.std.proofs.Common.{arith, ◌∙◌, sym, ap, subst, []}
use Rattle.sv8_time.specs.Schedule.{bytes_of_step}
use Rattle.sv8_time.specs.Inputs.{joined, InBlocks}
use Rattle.sv8_time.proofs.BlockPlaces.{apart_at, bytes_within, bytes_past, all_below}
use Rattle.sv8_time.proofs.inputs.Inputs.at.Goals as goal

pub returns-in-Some-clause-value : goal.returns-in-Some-clause-value
returns-in-Some-clause-value c =
    let blocks = c.deref.result.now in
    let k = c.block_of.result in
    let in_blocks : InBlocks 0 blocks = subst (λ l. InBlocks 0 l) (sym c.deref.ensures.value) c.self.invariant.in_blocks in
    let apart = apart_at c.args.step 0 k blocks in_blocks c.in-Some.ensures.lookup.3.0 (omega (arith, c.block_of.ensures)) in
    c.at.ensures.value ∙ (ap (bytes_of_step c.args.step) (c.in-Some.ensures.lookup.3.1 []) ∙ (bytes_within c.args.step blocks k apart ∙ ap (bytes_of_step c.args.step) (ap joined c.deref.ensures.value ∙ c.self.view_is)))

pub returns-in-None-clause-value : goal.returns-in-None-clause-value
returns-in-None-clause-value c =
    let blocks = c.deref.result.now in
    let in_blocks : InBlocks 0 blocks = subst (λ l. InBlocks 0 l) (sym c.deref.ensures.value) c.self.invariant.in_blocks in
    bytes_past c.args.step (joined blocks) (all_below c.args.step 0 blocks in_blocks (omega (arith, c.block_of.ensures, c.in-None.ensures.lookup.3))) ∙ ap (bytes_of_step c.args.step) (ap joined c.deref.ensures.value ∙ c.self.view_is)
