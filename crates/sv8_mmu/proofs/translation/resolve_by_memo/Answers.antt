use Rattle.sv8_mmu.proofs.Noting.{noted_behind}
use Rattle.sv8_mmu.proofs.translation.resolve_by_memo.Goals as goal

pub returns-in_ok-note_reads-in-Some-clause-found : goal.returns-in_ok-note_reads-in-Some-clause-found
returns-in_ok-note_reads-in-Some-clause-found g c = λ bytes. noted_behind _ _ _ _ _ _ _ (c.in-Some.ensures.does (g.R.TableMemory.outside bytes c.args.phys.now)) c.in_ok-note_reads-in-Some.ensures.ok
