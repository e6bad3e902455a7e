use Rattle.std.proofs.Common.{◌∙◌, sym}
use Rattle.sv8_mmu.proofs.Plainly.{leads_plainly}
use Rattle.sv8_mmu.proofs.memo.Plain.by_end.Goals as goal

pub returns-else-marked-entry : goal.returns-else-marked-entry
returns-else-marked-entry c =
    leads_plainly _ _ _ c.args.end c.in-Page.entry c.in-Page.level c.in-Page.at c.in-Page.is (sym c.fault_type.ensures ∙ c.in-None.is) (sym c.marked.ensures.value ∙ c.if-marked-entry.false)
    c.physical_address-base.ensures.value c.physical_address-base.ensures.offset c.physical_address-base.ensures.small
