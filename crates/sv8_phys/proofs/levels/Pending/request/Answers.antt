use Rattle.std.proofs.Common.{ap, ◌∙◌, ◌*◌, ◌^◌, ◌%◌, true, set, bit_or, arith}
use Rattle.sv8_model.specs.Words.{bit}
use Rattle.sv8_phys.specs.Pending.{levels_of_word}
use Rattle.sv8_phys.proofs.PendingLevels.{are_levels, shifted_one, requested, requested_zero}
use Rattle.sv8_phys.proofs.levels.Pending.request.Goals as goal

pub invariant_of-self : goal.invariant_of-self
invariant_of-self c =
    let level = c.number.result in
    ap (λ n. bit (bit_or c.self.inside.levels n) 0) (shifted_one level c.number.ensures.most) ∙ requested_zero c.self.inside.levels level c.number.ensures.some c.self.invariant

pub returns-clause-value : goal.returns-clause-value
returns-clause-value c =
    let level = c.number.result in
    ap (λ n. levels_of_word (bit_or c.self.inside.levels n)) (shifted_one level c.number.ensures.most) ∙ requested c.self.inside.levels level (omega (arith, c.number.ensures.most))
    ∙ ap (λ ps. set ps level true) c.self.view_is ∙ ap (λ l. set c.args.self.now l true) c.number.ensures.value

pub returns-clause-shape : goal.returns-clause-shape
returns-clause-shape c = are_levels (bit_or c.self.inside.levels (1 * 2 ^ c.number.result % 65536)) (invariant_of-self c)
