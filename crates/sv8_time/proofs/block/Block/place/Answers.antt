use Rattle.std.proofs.Common.{◌∙◌, sym, subst}
use Rattle.sv8_time.specs.Order.{Rising}
use Rattle.sv8_time.specs.Schedule.{input_before}
use Rattle.sv8_time.proofs.InputPlaces.{input_stands, input_misses}
use Rattle.sv8_time.proofs.block.Block.place.Goals as goal

pub returns-then-stands_at : goal.returns-then-stands_at
returns-then-stands_at c = λ bytes. input_stands c.args.step bytes c.args.self.now c.count_below-index.result (subst (λ l. Rising input_before l) c.self.view_is c.self.invariant.rising)
    c.count_below-index.ensures.value (sym c.stands_at.ensures ∙ c.if-stands_at.true)

pub returns-else-stands_at : goal.returns-else-stands_at
returns-else-stands_at c = λ bytes. input_misses c.args.step bytes c.args.self.now c.count_below-index.result (subst (λ l. Rising input_before l) c.self.view_is c.self.invariant.rising)
    c.count_below-index.ensures.value c.count_below-index.ensures.bound (sym c.stands_at.ensures ∙ c.if-stands_at.false)
