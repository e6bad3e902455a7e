use Rattle.std.proofs.Common.{subst, Contains}
use Rattle.lru.proofs.CallerLemmas.{Contains-remove_entry}
use Rattle.sv8_mmu.proofs.kept_walks.drop_readers_from.Goals as goal

pub loop-preserved : goal.loop-preserved
loop-preserved c = λ e m.
    c.loop.invariant e (Contains-remove_entry _ c.loop.walks.entries e (subst (λ z. Contains z.entries e) c.pop.ensures.entries m))
