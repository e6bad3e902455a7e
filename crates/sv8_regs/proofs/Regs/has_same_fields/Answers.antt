use Rattle.std.proofs.Common.{rules, ◌≡◌, nat_eq}
use Rattle.std.proofs.lemmas.Bool.Decides.{Decides-eqb}
use Rattle.sv8_regs.proofs.Sameness.{decided, same_psr, same_fields}
use Rattle.sv8_regs.proofs.Regs.has_same_fields.Goals as goal

pub returns-then-self-other-3 : goal.returns-then-self-other-3
returns-then-self-other-3 g c =
    let own = c.self.inside in
    let others = c.other.inside in
    let psr = same_psr own.psr others.psr c.if-ne.ensures in
    let cwp : own.window ≡ others.window = search rules in
    let wim : own.wim ≡ others.wim = search rules in
    let tbr : own.tbr ≡ others.tbr = search rules in
    decided (nat_eq own.y others.y) (Decides-eqb own.y others.y)
    (λ y. same_fields _ _ _ _ c.self.view_is c.other.view_is cwp psr wim tbr y)
    (λ e. search rules)
