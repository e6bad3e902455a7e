use Rattle.std.proofs.Common.{ap, ◌∙◌, ◌-◌, bit_and, arith, w32}
use Rattle.std.specs.Int.{bit_not}
use Rattle.sv8_model.specs.Words.{bit}
use Rattle.sv8_model.specs.Levels.{cleared}
use Rattle.sv8_phys.specs.Pending.{levels_of_word}
use Rattle.sv8_phys.proofs.PendingLevels.{are_levels, cleared_word, cleared_zero}
use Rattle.sv8_phys.proofs.levels.Pending.clear.Goals as goal

pub invariant_of-self : goal.invariant_of-self
invariant_of-self c =
    ap (λ p. bit (bit_and p (bit_not w32 c.args.levels)) 0) c.from.ensures ∙ cleared_zero c.self.inside.levels c.args.levels (omega arith) c.self.invariant

pub returns-clause-value : goal.returns-clause-value
returns-clause-value c =
    ap (λ p. levels_of_word (bit_and p (bit_not w32 c.args.levels))) c.from.ensures
    ∙ cleared_word c.self.inside.levels c.args.levels (omega arith) ∙ ap (cleared c.args.levels) c.self.view_is

pub returns-clause-shape : goal.returns-clause-shape
returns-clause-shape c = are_levels (bit_and c.from.result (4294967295 - c.args.levels)) (invariant_of-self c)
