use Rattle.sv8_commands.specs.Words.{words_of}
use Rattle.sv8_monitor.specs.Questions.{question_of}
use Rattle.sv8_monitor.proofs.MonitorLemmas.{reply-lost-lines}
use Rattle.sv8_monitor.proofs.monitor.MonitoringCommands.lose.Goals as goal

pub returns : goal.returns
returns g c = λ kept text lines takes. reply-lost-lines c.lose_lines.result _ _ kept (question_of (words_of text)) text lines takes (c.lose_lines.ensures kept.now text lines)
