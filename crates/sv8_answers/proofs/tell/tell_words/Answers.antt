use Rattle.std.proofs.Common.{[]}
use Rattle.sv8_commands.specs.Text.{ok_line, memory_text}
use Rattle.sv8_commands.proofs.PutLemmas.{puts-failed, Puts-gained, gains-cut}
use Rattle.sv8_answers.proofs.tell.tell_words.Goals as goal

pub returns : goal.returns
returns g c = Puts-gained c.accept.result _ _ _ [] _ _ ok_line (rw c.new-text.ensures at c.in_ok-add_memory.ensures) c.accept.ensures

pub returns-in_err-add_memory : goal.returns-in_err-add_memory
returns-in_err-add_memory g c = puts-failed c.from_residual.result _ _ _ c.from_residual.ensures.0 (gains-cut _ _ [] (memory_text c.args.first c.args.words.now) ok_line (rw c.new-text.ensures at c.in_err-add_memory.ensures))
