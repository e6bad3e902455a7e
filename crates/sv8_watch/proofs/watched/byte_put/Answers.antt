use Rattle.std.proofs.Common.{rules, ◌∙◌}
use Rattle.sv8_watch.proofs.Places.{in_piece, in_none}
use Rattle.sv8_watch.proofs.watched.byte_put.Goals as goal

pub returns-in-Some : goal.returns-in-Some
returns-in-Some g c = λ before end.
    c.byte_at.ensures ∙ in_piece c.args.after.now.memory.output before c.args.end end c.in-Some.piece.now (search rules)

pub returns-in-None : goal.returns-in-None
returns-in-None g c = λ before end. in_none c.args.after.now.memory.output before c.args.end end (search rules)
