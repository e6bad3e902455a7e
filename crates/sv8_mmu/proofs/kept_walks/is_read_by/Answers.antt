use Rattle.std.proofs.Common.{◌∙◌, sym, subst}
use Rattle.sv8_mmu.specs.Kept.{NoneReadsPage}
use Rattle.sv8_mmu.proofs.Keeping.{none_reads_page-nil, none_reads_page-cons}
use Rattle.sv8_mmu.proofs.kept_walks.is_read_by.Goals as goal

pub loop-walk-init : goal.loop-walk-init
loop-walk-init c = λ h. subst (NoneReadsPage c.args.page) (c.into_iter-walk-iterator.ensures.into_iter_gives ∙ c.iter-walk-items.ensures.rest) h

pub loop-walk-preserved : goal.loop-walk-preserved
loop-walk-preserved c = λ h.
    c.loop-walk.invariant (subst (NoneReadsPage c.args.page) (sym c.in-Some.ensures.steps) (none_reads_page-cons c.args.page (c.in-Some.field-0-0.now, c.in-Some.walk.now) _ (c.reads_page.ensures c.if-reads_page.false) h))

pub returns : goal.returns
returns c = λ _. c.loop-walk.invariant (subst (NoneReadsPage c.args.page) (sym c.in-None.ensures.steps.0) (none_reads_page-nil c.args.page))
