use Rattle.std.proofs.Common.{◌∙◌, ℕ, List, refl, ap}
use Rattle.sv8_cpu.specs.Whole.{inner_of_parts, state_over}
use Rattle.sv8_cpu.specs.Run.{acted_on, step_action}
use Rattle.sv8_cpu.specs.State.{State}
use Rattle.sv8_cpu.proofs.Leaving.{left}
use Rattle.sv8_cpu.proofs.machine.act_in_step.Goals as goal

pub act-requires : goal.act-requires
act-requires g c = (search, c.of_step.ensures.begins c.args.parts.now.memory.phys c.requires.delivered)

pub returns-clause-ok : goal.returns-clause-ok
returns-clause-ok g c =
    let before = state_over c.args.parts.now.processor c.args.parts.now.memory in
    left _ _ _ c.args.parts.now.memory.phys c.act.new.self.memory.phys (inner_of_parts c.act.new.self) _ _ _
    (c.of_step.ensures.begins c.args.parts.now.memory.phys c.requires.delivered) c.in_ok-act.ensures.fed c.in_ok-act.ensures.ok refl refl refl refl
    ∙ ap {A = List ℕ} {B = State} (λ bytes. acted_on bytes before (step_action g.row.NW g.row.PAGES before)) c.of_step.ensures.arrived
