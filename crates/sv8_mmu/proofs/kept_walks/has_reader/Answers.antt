use Rattle.std.proofs.Common.{sym, subst}
use Rattle.sv8_mmu.specs.Kept.{entries_of, NoneReadsPage}
use Rattle.sv8_mmu.proofs.kept_walks.has_reader.Goals as goal

pub returns-in-Some : goal.returns-in-Some
returns-in-Some c = λ unread. subst (λ o. NoneReadsPage c.args.page (entries_of o)) (sym c.in-Some.is) (c.is_read_by.ensures unread)
