use Rattle.std.proofs.Common.{rules}
use Rattle.sv8_phys.proofs.Access.{output_load, count_load, reload_load, pending_load, no_load}
use Rattle.sv8_phys.proofs.phys.Phys.read_device.Goals as goal

pub returns-in-2147483656-clause-ok : goal.returns-in-2147483656-clause-ok
returns-in-2147483656-clause-ok g c = λ bytes. rw c.in-2147483656.is (output_load _ _ _ _)

pub returns-in-2147483664-clause-ok : goal.returns-in-2147483664-clause-ok
returns-in-2147483664-clause-ok g c = λ bytes. rw c.in-2147483664.is (count_load _ _ _ _ _ (search rules))

pub returns-in-2147483668-clause-ok : goal.returns-in-2147483668-clause-ok
returns-in-2147483668-clause-ok g c = λ bytes. rw c.in-2147483668.is (reload_load _ _ _ _ _ (search rules))

pub returns-in_ok-word-in-2147483676-clause-ok : goal.returns-in_ok-word-in-2147483676-clause-ok
returns-in_ok-word-in-2147483676-clause-ok g c = λ bytes. rw c.in-2147483676.is (pending_load _ _ _ _ c.in_ok-word-in-2147483676.word _ _ (search rules) (c.in_ok-word-in-2147483676.ensures.ok bytes))

pub returns-in_default-clause-ok : goal.returns-in_default-clause-ok
returns-in_default-clause-ok g c = λ bytes. no_load _ _ _ _ _ (search rules) (search rules) (search rules) (search rules)
