use Rattle.sv8_walks.proofs.Ordinary.{calm}
use Rattle.sv8_walks.proofs.machines.is_calm.Goals as goal

pub returns-clause-calm : goal.returns-clause-calm
returns-clause-calm g c = λ yes n schedule quiet.
    calm _ _ _ _ c.args.p.now c.args.memory.now quiet.0 quiet.1 c.requires (rw (← c.phys.ensures, ← c.timer.ensures) c.if-timer-eq1.false)
    (c.in_ok-may_be_interrupted.ensures c.if-branch.false)
