use Rattle.std.proofs.Common.{◌+◌, ◌-◌, take, drop}
use Rattle.sv8_source.specs.Listing.{listing}
use Rattle.sv8_commands.specs.Put.{Gained}
use Rattle.sv8_commands.specs.Text.{numbered_text}
use Rattle.sv8_answers.specs.Text.{listing_line}
use Rattle.sv8_answers.proofs.listing.add_lines.Given as goal

-- the lines up to the present one, of those that are asked for
abbrev pub invariant-loop-place : goal.invariant-loop-place
invariant-loop-place g l =
    Gained (g.W.Write.contents l.initial.writer) (g.W.Write.contents l.writer) l.initial.text l.text
    (numbered_text listing_line (l.from + 1) (take (l.place - l.from) (take (l.to - l.from) (drop l.from (listing (g.B.Workbench.kept l.bench).source)))))
