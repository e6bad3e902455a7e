use Rattle.std.proofs.Common.{sym, ap}
use Rattle.sv8_model.proofs.Common.{does_map}
use Rattle.sv8_mmu.specs.Probe.{page_or_zero}
use Rattle.sv8_mmu.proofs.probing.probe_entire.Goals as goal

pub returns-in-Page : goal.returns-in-Page
returns-in-Page g c = λ o. does_map _ _ page_or_zero _ _ _ _ _ _ (c.walk_for-walk.ensures.does o) (ap page_or_zero (sym c.in-Page.is))

pub returns-in-Fault : goal.returns-in-Fault
returns-in-Fault g c = λ o. does_map _ _ page_or_zero _ _ _ _ _ _ (c.walk_for-walk.ensures.does o) (ap page_or_zero (sym c.in-Fault.is))
