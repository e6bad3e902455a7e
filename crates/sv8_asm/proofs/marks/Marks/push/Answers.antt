use Rattle.sv8_asm.proofs.InOrder.{pushed_in}
use Rattle.sv8_asm.proofs.marks.Marks.push.Goals as goal

pub invariant_of-self-2 : goal.invariant_of-self-2
invariant_of-self-2 c = λ h. pushed_in c.self.inside.labels.items c.push.new.self.items (record { line = c.args.line; location = c.args.location }) c.self.inside.last c.in_ok-push.ensures.items (c.self.invariant (c.stays_in_order-self-inside.ensures.before h)) (c.stays_in_order-self-inside.ensures.behind h)
