use Rattle.std.proofs.Common.{◌≡◌, [], take}
use Rattle.sv8_model.specs.Does.{noting}
use Rattle.sv8_mmu.specs.Kept.{places_of, reads_of}
use Rattle.sv8_mmu.proofs.translation.note_reads.Given as goal

abbrev pub invariant-loop-at : goal.invariant-loop-at
invariant-loop-at g l =
    noting g.T.Touches.NOTING (g.T.Touches.noted l.notes) (reads_of (take l.at-iterator.n l.at-iterator.iter.rest.now)) []
    ≡ noting g.T.Touches.NOTING (g.T.Touches.noted l.fn.notes) (reads_of (places_of l.fn.trail)) []
