use Rattle.std.proofs.Common.{◌∙◌, sym, subst}
use Rattle.sv8_mmu.specs.Kept.{NoneReads}
use Rattle.sv8_mmu.proofs.Keeping.{none_reads-nil, none_reads-cons}
use Rattle.sv8_mmu.proofs.kept_walks.reader.Goals as goal

pub loop-key-init : goal.loop-key-init
loop-key-init c = λ h. subst (NoneReads c.args.at) (c.into_iter-key-iterator.ensures.into_iter_gives ∙ c.iter-key-items.ensures.rest) h

pub loop-key-preserved : goal.loop-key-preserved
loop-key-preserved c = λ h.
    c.loop-key.invariant (subst (NoneReads c.args.at) (sym c.in-Some.ensures.steps) (none_reads-cons c.args.at (c.in-Some.key.now, c.in-Some.walk.now) _ (c.reads.ensures c.if-reads.false) h))

pub returns : goal.returns
returns c = c.loop-key.invariant (subst (NoneReads c.args.at) (sym c.in-None.ensures.steps.0) (none_reads-nil c.args.at))
