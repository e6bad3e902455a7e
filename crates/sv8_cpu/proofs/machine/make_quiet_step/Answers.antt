use Rattle.std.proofs.Common.{◌+◌, ◌∙◌, ap}
use Rattle.sv8_time.specs.Schedule.{arrived}
use Rattle.sv8_phys.specs.Contents.{Contents}
use Rattle.sv8_memory.proofs.Poking.{quiet}
use Rattle.sv8_cpu.specs.Whole.{state_of}
use Rattle.sv8_cpu.specs.Run.{acted_on, step, step_action}
use Rattle.sv8_cpu.specs.State.{State}
use Rattle.sv8_cpu.proofs.machine.make_quiet_step.Goals as goal

pub returns-clause-ok : goal.returns-clause-ok
unfolding step
returns-clause-ok g c =
    let before = state_of c.args.parts.now in
    c.in_ok-act_in_step.ensures.ok
    ∙ ap {A = Contents} {B = State}
    (λ m. acted_on (arrived (c.args.n + 1) c.args.timeline.now) (record before { memory = m }) (step_action g.row.NW g.row.PAGES (record before { memory = m })))
    (quiet c.args.timeline.now c.args.n before.memory c.requires.no_pokes c.requires.no_requests)
