use Rattle.std.proofs.Common.{arith}
use Rattle.sv8_time.specs.Schedule.{arrived}
use Rattle.sv8_time.proofs.Common.{length-arrived}
use Rattle.sv8_cpu.proofs.Leaving.{length-dropped}
use Rattle.sv8_cpu.proofs.machine.Machine.waiting_count.Goals as goal

pub returns : goal.returns
returns g c =
    let all = length-arrived c.args.n c.args.timeline.now in
    let left = length-dropped c.args.self.now.memory.taken (arrived c.args.n c.args.timeline.now) in
    let delivered = c.delivered.ensures.value in
    let taken = c.taken.ensures in
    omega (arith, all, left, delivered, taken)
