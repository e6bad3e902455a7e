use Rattle.std.proofs.Common.{rules, ◌≡◌, ◌∙◌, ◌⊎◌, inl, inr, subst, Contains}
use Rattle.lru.proofs.Splits.{Contains-nil}
use Rattle.sv8_mmu.proofs.Keeping.{in_box}
use Rattle.sv8_mmu.proofs.buffer.Buffer.keep.Goals as goal

pub returns-in-Some : goal.returns-in-Some
returns-in-Some c = λ k m.
    let whole = in_box c.self.inside.walks c.in-Some.walks _ c.args.self.now c.self.view_is c.in-Some.is c.deref_mut.ensures.value in
    subst (λ l. Contains l k ⊎ (k ≡ (c.args.key, c.args.walk))) whole (c.keep.ensures k m)

pub returns-in-Ok : goal.returns-in-Ok
returns-in-Ok c = λ k m.
    let same : c.match-self-2.self ≡ c.keep-in-Ok.new.self = search rules in
    elim (c.keep-in-Ok.ensures k (subst (λ l. Contains l k) same m)) [
      | inl was ↦ absurd (Contains-nil k (subst (λ l. Contains l k) (c.deref_mut-in-Ok.ensures.value ∙ c.in-Ok.ensures.ok ∙ c.new.ensures) was))
      | inr p ↦ inr p
    ]
