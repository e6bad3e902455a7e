use Rattle.std.proofs.Common.{◌≡◌, ◌≤◌, ◌+◌, ◌∙◌, ℕ, ap}
use Rattle.sv8_time.specs.Schedule.{Schedule, arrived, bytes_below}
use Rattle.sv8_memory.specs.Events.{with_events}
use Rattle.sv8_memory.specs.declared.physical.Physical.{Physical}
use Rattle.sv8_cpu.specs.Whole.{state_over}
use Rattle.sv8_cpu.specs.Run.{acted_on, step, step_action}
use Rattle.sv8_cpu.specs.State.{State}
use Rattle.sv8_cpu.proofs.machine.make_step.Goals as goal

-- the events of a step take no byte
none_taken : {pages : ℕ} (most : ℕ) (s : Schedule) (n : ℕ) (m m' : Physical pages) → m' ≡ record m { phys = with_events s n m.phys } → m.phys.taken ≤ most → m'.phys.taken ≤ most
unfolding with_events
none_taken most s n m m' happened begun = rw happened begun

pub act_in_step-requires : goal.act_in_step-requires
act_in_step-requires g c = (search, (search, none_taken (bytes_below c.args.n c.args.timeline.now.inputs) c.args.timeline.now c.args.n c.args.parts.now.memory c.happen.new.self c.in_ok-happen.ensures c.requires.delivered))

pub returns-clause-ok : goal.returns-clause-ok
unfolding step
returns-clause-ok g c =
    c.in_ok-act_in_step.ensures.ok
    ∙ ap {A = Physical g.row.PAGES} {B = State}
    (λ m. acted_on (arrived (c.args.n + 1) c.args.timeline.now) (state_over c.args.parts.now.processor m) (step_action g.row.NW g.row.PAGES (state_over c.args.parts.now.processor m)))
    c.in_ok-happen.ensures
