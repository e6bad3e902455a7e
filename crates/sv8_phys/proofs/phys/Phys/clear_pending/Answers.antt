use Rattle.std.proofs.Common.{rules, ap, ◌∙◌}
use Rattle.sv8_model.specs.Levels.{cleared}
use Rattle.sv8_model.specs.Outside.{Outside}
use Rattle.sv8_phys.specs.Contents.{Contents, outside_of}
use Rattle.sv8_phys.specs.Devices.{stored_with}
use Rattle.sv8_phys.proofs.Access.{clears}
use Rattle.sv8_phys.proofs.phys.Phys.clear_pending.Goals as goal

pub returns-clause-ok : goal.returns-clause-ok
returns-clause-ok g c = λ bytes timer.
    clears _ c.args.levels (stored_with timer) c.clear.new.self (outside_of c.args.self.now bytes) _ _ _
    (c.clear.ensures.value ∙ ap (λ (m : Contents). cleared c.args.levels m.pending) c.self.view_is)
    (ap (λ (m : Contents). let o : Outside = outside_of m bytes in record o { pending = c.clear.new.self }) c.self.view_is) (search rules)
