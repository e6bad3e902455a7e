use Rattle.std.proofs.Common.{◌≡◌, sym, ap, ◌∙◌, false, length, set, arith}
use Rattle.sv8_model.specs.Levels.{cleared}
use Rattle.sv8_phys.proofs.PendingLevels.{level_count, shifted_word, withdrawn}
use Rattle.sv8_phys.proofs.levels.Pending.withdraw.Goals as goal

pub returns-clause-value : goal.returns-clause-value
returns-clause-value c =
    let level = c.number.result in
    let all : length c.args.self.now ≡ 16 = ap length (sym c.self.view_is) ∙ level_count c.self.inside.levels in
    c.clear.ensures.value ∙ ap (λ n. cleared n c.args.self.now) (shifted_word level c.number.ensures.most) ∙ withdrawn c.args.self.now level (omega (arith, c.number.ensures.most))
    ∙ ap (λ l. set c.args.self.now l false) c.number.ensures.value
