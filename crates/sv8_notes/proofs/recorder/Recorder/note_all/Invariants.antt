use Rattle.std.proofs.Common.{◌≡◌, length}
use Rattle.sv8_notes.specs.Recording.{with_touches}
use Rattle.sv8_notes.proofs.recorder.Recorder.note_all.Given as goal

abbrev pub invariant-loop-rest : goal.invariant-loop-rest
invariant-loop-rest l = with_touches l.self l.rest ≡ with_touches l.fn.self l.fn.touches

abbrev pub decreases-loop-rest : goal.decreases-loop-rest
decreases-loop-rest l = length l.rest
