use Rattle.std.proofs.Common.{[]}
use Rattle.std.proofs.lemmas.Result.{err_from_is_err_and}
use Rattle.sv8_mmu.proofs.Growing.{marking_grows}
use Rattle.sv8_mmu.proofs.Translating.{walked_and_settled}
use Rattle.sv8_mmu.proofs.translation.translate_by_tables.Goals as goal

pub returns-in_err-answer-clause-stand : goal.returns-in_err-answer-clause-stand
returns-in_err-answer-clause-stand g c = c.settle.ensures.stand _ c.find_walk-walk.ensures.walk c.find_walk-walk.ensures.stand

pub returns-clause-ok : goal.returns-clause-ok
returns-clause-ok g c = λ bytes.
    walked_and_settled _ _ (g.R.TableMemory.ram c.args.phys.now) c.args.registers.now c.args.access.address _ _ (g.R.TableMemory.outside bytes c.args.phys.now) _ c.find_walk-walk.result _ _ _ _ c.requires.on c.find_walk-walk.ensures.walk c.in_ok-note_reads.ensures.ok
    (c.in_ok-answer.ensures.ok bytes)

pub returns-clause-stand : goal.returns-clause-stand
returns-clause-stand g c = c.settle.ensures.stand _ c.find_walk-walk.ensures.walk c.find_walk-walk.ensures.stand

pub returns-in_err-answer-clause-growth : goal.returns-in_err-answer-clause-growth
returns-in_err-answer-clause-growth g c =
    let p = err_from_is_err_and c.from_residual-in_err-answer.result c.from_residual-in_err-answer.ensures.1 in
    rw p.1 (marking_grows g.T.Touches.KEEPS g.R.TableMemory.SIZE (g.R.TableMemory.ram c.args.phys.now) c.args.registers.now c.args.access.address c.args.access.access_type c.args.access.reach (record (g.R.TableMemory.outside [] c.args.phys.now) { ram = g.R.TableMemory.ram c.args.phys.now })
    c.find_walk-walk.result c.requires.on c.find_walk-walk.ensures.walk c.in_err-answer.ensures.growth)
