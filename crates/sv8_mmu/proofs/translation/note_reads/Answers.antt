use Rattle.sv8_mmu.proofs.Noting.{note_next}
use Rattle.sv8_mmu.proofs.translation.note_reads.Goals as goal

pub loop-at-preserved : goal.loop-at-preserved
loop-at-preserved g c =
    note_next g.T.Touches.NOTING _ _ _ c.loop-at.at-iterator.iter.rest.now c.next.new.self.iter.rest.now _ c.next.new.self.n c.loop-at.at-iterator.n c.in-Some.ensures.steps c.in_ok-note.ensures.ok c.loop-at.invariant
