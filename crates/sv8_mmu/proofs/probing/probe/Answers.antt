use Rattle.sv8_mmu.proofs.Noting.{noted_behind}
use Rattle.sv8_mmu.proofs.probing.probe.Goals as goal

pub returns-clause-ok : goal.returns-clause-ok
returns-clause-ok g c = λ bytes. noted_behind _ _ _ _ _ _ _ (c.probed_as-value.ensures (g.R.TableMemory.outside bytes c.args.phys.now)) c.in_ok-note_reads.ensures.ok
