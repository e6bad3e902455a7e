use Rattle.std.proofs.Common.{subst}
use Rattle.sv8_model.specs.Action.{done, ask_levels}
use Rattle.sv8_model.specs.Does.{Does}
use Rattle.sv8_phys.specs.Contents.{outside_of}
use Rattle.sv8_memory.proofs.memory.Memory.pending_among.Goals as goal

pub returns : goal.returns
returns g c = λ bytes.
    subst (λ p. Does g.T.Touches.NOTING (ask_levels c.args.levels (λ word. done word)) (outside_of p.phys bytes) (outside_of p.phys bytes) c.in_ok-pending.pending (g.T.Touches.noted c.args.notes.now) (g.T.Touches.noted c.pending_among.new.notes))
    c.self.view_is (c.in_ok-pending.ensures.ok bytes)
