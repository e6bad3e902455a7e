use Rattle.std.proofs.Common.{◌++◌, sym, subst}
use Rattle.sv8_mmu.specs.Kept.{if_kept, entries_of, AreMarked}
use Rattle.sv8_mmu.proofs.kept_walks.KeptWalks.know.Goals as goal

pub invariant_of-self : goal.invariant_of-self
invariant_of-self c = subst (λ m. AreMarked c.self.inside.pages (if_kept m ++ if_kept c.self.inside.load_memo ++ if_kept c.self.inside.store_memo ++ entries_of c.self.inside.cache)) (sym c.know_last.ensures) c.self.invariant

pub invariant_of-self-in-Load : goal.invariant_of-self-in-Load
invariant_of-self-in-Load c = subst (λ m. AreMarked c.self.inside.pages (if_kept c.self.inside.fetch_memo ++ if_kept m ++ if_kept c.self.inside.store_memo ++ entries_of c.self.inside.cache)) (sym c.know_last-in-Load.ensures) c.self.invariant

pub invariant_of-self-in-Store : goal.invariant_of-self-in-Store
invariant_of-self-in-Store c = subst (λ m. AreMarked c.self.inside.pages (if_kept c.self.inside.fetch_memo ++ if_kept c.self.inside.load_memo ++ if_kept m ++ entries_of c.self.inside.cache)) (sym c.know_last-in-Store.ensures) c.self.invariant
