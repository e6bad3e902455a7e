use Rattle.std.proofs.Common.{◌≡◌, drop, take, filter, bit_or}
use Rattle.sv8_touches.specs.Told.{is_told, levels_in}
use Rattle.sv8_notes.specs.Steps.{Gains}
use Rattle.sv8_notes.proofs.notes.Notes.note_told.Given as goal

abbrev pub invariant-loop-touch : goal.invariant-loop-touch
invariant-loop-touch l = record {
  noted : Gains l.offset (filter (is_told l.touches) (take l.touch-index l.touches)) (filter (is_told l.touches) (take l.touch-index l.touches)) l.fn.self l.self;
  gathered : bit_or l.levels (levels_in (drop l.touch-index l.touches)) ≡ levels_in l.touches;
}
