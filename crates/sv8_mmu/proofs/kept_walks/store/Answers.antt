use Rattle.std.proofs.Common.{◌≡◌, ◌⊎◌, inl, inr, sym, subst, Contains}
use Rattle.lru.proofs.Splits.{Contains-nil}
use Rattle.sv8_mmu.specs.Kept.{entries_of}
use Rattle.sv8_mmu.proofs.kept_walks.store.Goals as goal

pub returns-in-Some : goal.returns-in-Some
returns-in-Some c = λ k m. subst (λ o. Contains (entries_of o) k ⊎ (k ≡ (c.args.key, c.args.walk))) (sym c.in-Some.is) (c.store_into.ensures k m)

pub returns-in-Ok : goal.returns-in-Ok
returns-in-Ok c = λ k m. elim (c.store_into-in-Ok.ensures k m) [
  | inl was ↦ absurd (Contains-nil k (subst (λ w. Contains w.entries k) c.in-Ok.ensures was))
  | inr p ↦ inr p
]
