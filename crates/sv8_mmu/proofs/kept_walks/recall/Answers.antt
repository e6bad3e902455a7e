use Rattle.std.proofs.Common.{sym, subst}
use Rattle.sv8_mmu.specs.Kept.{entries_of, AreAmong}
use Rattle.sv8_mmu.proofs.kept_walks.recall.Goals as goal

pub returns-in-Some-clause-among : goal.returns-in-Some-clause-among
returns-in-Some-clause-among c = subst (λ o. AreAmong c.recall_from.new.walks.entries (entries_of o)) (sym c.in-Some.is) c.recall_from.ensures.among
