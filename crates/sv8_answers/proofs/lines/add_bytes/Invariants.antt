use Rattle.std.proofs.Common.{take}
use Rattle.sv8_commands.specs.Put.{Gained}
use Rattle.sv8_commands.specs.Text.{numbered_text}
use Rattle.sv8_answers.specs.Text.{listed_byte}
use Rattle.sv8_answers.proofs.lines.add_bytes.Given as goal

abbrev pub invariant-loop-place : goal.invariant-loop-place
invariant-loop-place g l = Gained (g.W.Write.contents l.initial.writer) (g.W.Write.contents l.writer) l.initial.text l.text (numbered_text listed_byte 0 (take l.place l.bytes))
