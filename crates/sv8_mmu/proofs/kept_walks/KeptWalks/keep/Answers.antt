use Rattle.std.proofs.Common.{◌≡◌, ◌⊎◌, ◌++◌, Contains}
use Rattle.sv8_mmu.specs.Kept.{Kept, if_kept, entries_of}
use Rattle.sv8_mmu.proofs.Keeping.{one_more, marked_more}
use Rattle.sv8_mmu.proofs.kept_walks.KeptWalks.keep.Goals as goal

kept : (c : goal.After-store) (k : Kept) → Contains (if_kept c.self.inside.fetch_memo ++ if_kept c.self.inside.load_memo ++ if_kept c.self.inside.store_memo ++ entries_of c.store.new.cache) k → Contains c.args.self.now k ⊎ (k ≡ (c.args.key, c.args.walk))
kept c = one_more c.self.inside.fetch_memo c.self.inside.load_memo c.self.inside.store_memo c.self.inside.cache c.args.self.now c.self.view_is c.store.new.cache (c.args.key, c.args.walk) c.store.ensures

pub invariant_of-self : goal.invariant_of-self
invariant_of-self c = marked_more c.self.inside.pages c.mark.new.pages _ _ _ (c.args.key, c.args.walk) c.self.view_is c.self.invariant c.mark.ensures.kept c.mark.ensures.marked (kept c)

pub returns : goal.returns
returns c = kept c
