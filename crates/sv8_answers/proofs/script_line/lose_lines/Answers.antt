use Rattle.sv8_commands.specs.Words.{words_of}
use Rattle.sv8_answers.proofs.OrderLemmas.{lose-words}
use Rattle.sv8_answers.proofs.script_line.lose_lines.Goals as goal

pub returns : goal.returns
returns g c = λ kept text lines h. lose-words c.refuse.result _ _ kept (words_of text) lines h (rw c.refusal_of.ensures.value at c.refuse.ensures)
