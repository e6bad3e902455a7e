use Rattle.std.proofs.Common.{sym, ap, ◌∙◌, false, get_or, arith}
use Rattle.sv8_phys.proofs.PendingLevels.{level_at}
use Rattle.sv8_phys.proofs.levels.Pending.is_pending.Goals as goal

pub returns : goal.returns
returns c =
    let level = c.number.result in
    sym (ap (λ ps. get_or ps level false) (sym c.self.view_is) ∙ level_at c.self.inside.levels level (omega (arith, c.number.ensures.most)))
    ∙ ap (λ l. get_or c.args.self.now l false) c.number.ensures.value
