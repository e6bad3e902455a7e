use Rattle.std.proofs.Common.{rules}
use Rattle.sv8_phys.proofs.Access.{pending_store}
use Rattle.sv8_phys.proofs.phys.Phys.write_device.Goals as goal

pub returns-in_ok-clear_pending-in-2147483676-clause-ok : goal.returns-in_ok-clear_pending-in-2147483676-clause-ok
returns-in_ok-clear_pending-in-2147483676-clause-ok g c = λ bytes. rw c.in-2147483676.is (pending_store _ _ _ _ _ _ _ _ _ c.low_word.ensures (search rules) (c.in_ok-clear_pending-in-2147483676.ensures.ok bytes c.args.self.now.timer))
