use Rattle.std.proofs.Common.{take, map}
use Rattle.sv8_source.specs.View.{named_of}
use Rattle.sv8_commands.specs.Put.{Gained}
use Rattle.sv8_monitor.specs.Texts.{names_text}
use Rattle.sv8_monitor.proofs.lines.put_names.Given as goal

-- the lines of the names up to the present one
abbrev pub invariant-loop-name : goal.invariant-loop-name
invariant-loop-name g l =
    Gained (g.W.Write.contents l.initial.writer) (g.W.Write.contents l.writer) l.initial.text l.text (names_text (take l.name-index (map named_of l.names)))
