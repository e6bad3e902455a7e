use Rattle.sv8_mmu.proofs.Keeping.{unmarked_page}
use Rattle.sv8_mmu.proofs.kept_walks.KeptWalks.forget_page.Goals as goal

pub returns-else-self-page-clause-none : goal.returns-else-self-page-clause-none
returns-else-self-page-clause-none c = unmarked_page c.self.inside.pages _ c.args.self.now c.args.page c.self.view_is c.self.invariant c.if-self-page.false
