use Rattle.std.proofs.Common.{◌≡◌, List, ◌∷◌, [], ◌++◌, Contains, sym, subst}
use Rattle.sv8_mmu.specs.Kept.{Kept, if_kept, entries_of, AreAmong}
use Rattle.sv8_mmu.proofs.Keeping.{found_nothing, found_fetch, found_load, found_store, in_cache, marked_among}
use Rattle.sv8_mmu.proofs.kept_walks.KeptWalks.find_in_cache.Goals as goal

made : (ks : List Kept) (memo k : Kept) → memo ≡ k → Contains ks k → Contains ks memo
made ks memo k is h = subst (Contains ks) (sym is) h

missed : (c : goal.After-from_residual) → AreAmong (if_kept c.self.inside.fetch_memo ++ if_kept c.self.inside.load_memo ++ if_kept c.self.inside.store_memo ++ entries_of c.recall.new.cache) c.args.self.now
missed c = found_nothing c.self.inside.fetch_memo c.self.inside.load_memo c.self.inside.store_memo c.self.inside.cache c.args.self.now c.self.view_is c.recall.new.cache c.recall.ensures.among

fetched : (c : goal.After-self-1) → AreAmong (c.new.result ∷ [] ++ if_kept c.self.inside.load_memo ++ if_kept c.self.inside.store_memo ++ entries_of c.recall.new.cache) c.args.self.now
fetched c =
    found_fetch c.self.inside.fetch_memo c.self.inside.load_memo c.self.inside.store_memo c.self.inside.cache c.args.self.now c.self.view_is c.recall.new.cache c.recall.ensures.among c.new.result (made _ _ _ c.new.ensures c.in_ok-walk.ensures.found)

loaded : (c : goal.After-self-in-Load-1) → AreAmong (if_kept c.self.inside.fetch_memo ++ c.new-in-Load.result ∷ [] ++ if_kept c.self.inside.store_memo ++ entries_of c.recall.new.cache) c.args.self.now
loaded c =
    found_load c.self.inside.fetch_memo c.self.inside.load_memo c.self.inside.store_memo c.self.inside.cache c.args.self.now c.self.view_is c.recall.new.cache c.recall.ensures.among c.new-in-Load.result (made _ _ _ c.new-in-Load.ensures c.in_ok-walk.ensures.found)

stored : (c : goal.After-self-in-Store-1) → AreAmong (if_kept c.self.inside.fetch_memo ++ if_kept c.self.inside.load_memo ++ c.new-in-Store.result ∷ [] ++ entries_of c.recall.new.cache) c.args.self.now
stored c =
    found_store c.self.inside.fetch_memo c.self.inside.load_memo c.self.inside.store_memo c.self.inside.cache c.args.self.now c.self.view_is c.recall.new.cache c.recall.ensures.among c.new-in-Store.result (made _ _ _ c.new-in-Store.ensures c.in_ok-walk.ensures.found)

pub invariant_of-self : goal.invariant_of-self
invariant_of-self c = marked_among c.self.inside.pages _ _ _ c.self.view_is c.self.invariant (missed c)

pub returns-in_err-walk-clause-among : goal.returns-in_err-walk-clause-among
returns-in_err-walk-clause-among c = missed c

pub invariant_of-self-in-Fetch : goal.invariant_of-self-in-Fetch
invariant_of-self-in-Fetch c = marked_among c.self.inside.pages _ _ (c.new.result ∷ [] ++ if_kept c.self.inside.load_memo ++ if_kept c.self.inside.store_memo ++ entries_of c.recall.new.cache) c.self.view_is c.self.invariant (fetched c)

pub invariant_of-self-in-Load : goal.invariant_of-self-in-Load
invariant_of-self-in-Load c = marked_among c.self.inside.pages _ _ _ c.self.view_is c.self.invariant (loaded c)

pub invariant_of-self-in-Store : goal.invariant_of-self-in-Store
invariant_of-self-in-Store c = marked_among c.self.inside.pages _ _ _ c.self.view_is c.self.invariant (stored c)

pub returns-in-Fetch-clause-found : goal.returns-in-Fetch-clause-found
returns-in-Fetch-clause-found c = in_cache c.self.inside.fetch_memo c.self.inside.load_memo c.self.inside.store_memo c.self.inside.cache c.args.self.now c.self.view_is (c.args.key, c.in_ok-walk.walk) c.in_ok-walk.ensures.found

pub returns-in-Fetch-clause-among : goal.returns-in-Fetch-clause-among
returns-in-Fetch-clause-among c = fetched c

pub returns-in-Load-clause-found : goal.returns-in-Load-clause-found
returns-in-Load-clause-found c = in_cache c.self.inside.fetch_memo c.self.inside.load_memo c.self.inside.store_memo c.self.inside.cache c.args.self.now c.self.view_is (c.args.key, c.in_ok-walk.walk) c.in_ok-walk.ensures.found

pub returns-in-Load-clause-among : goal.returns-in-Load-clause-among
returns-in-Load-clause-among c = loaded c

pub returns-in-Store-clause-found : goal.returns-in-Store-clause-found
returns-in-Store-clause-found c = in_cache c.self.inside.fetch_memo c.self.inside.load_memo c.self.inside.store_memo c.self.inside.cache c.args.self.now c.self.view_is (c.args.key, c.in_ok-walk.walk) c.in_ok-walk.ensures.found

pub returns-in-Store-clause-among : goal.returns-in-Store-clause-among
returns-in-Store-clause-among c = stored c
