use Rattle.sv8_mmu.specs.Kept.{entries_of}
use Rattle.sv8_mmu.proofs.Keeping.{in_cache, marked_among}
use Rattle.sv8_mmu.proofs.kept_walks.KeptWalks.forget_entry.Goals as goal

pub returns-clause-among : goal.returns-clause-among
returns-clause-among c = λ k m. in_cache c.self.inside.fetch_memo c.self.inside.load_memo c.self.inside.store_memo c.self.inside.cache c.args.self.now c.self.view_is k (c.drop_readers.ensures.among k m)

pub invariant_of-self : goal.invariant_of-self
invariant_of-self c = marked_among c.self.inside.pages _ _ (entries_of c.drop_readers.new.cache) c.self.view_is c.self.invariant (returns-clause-among c)
