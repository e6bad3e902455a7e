use Rattle.std.proofs.Common.{[], sym, ◌∙◌}
use Rattle.sv8_walks.proofs.machines.may_be_interrupted.Goals as goal

pub returns-then-pending-eq0 : goal.returns-then-pending-eq0
returns-then-pending-eq0 g c = λ none on. let word = rw c.unmasked_levels.ensures at (c.in_ok-pending.ensures []) in sym word.result ∙ c.if-pending-eq0.true
