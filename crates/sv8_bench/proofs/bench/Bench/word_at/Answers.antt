use Rattle.std.proofs.Common.{◌∙◌, ap}
use Rattle.sv8_workbench.specs.Shown.{words_in}
use Rattle.sv8_bench.proofs.ShownWords.{one_word}
use Rattle.sv8_bench.proofs.bench.Bench.word_at.Goals as goal

pub returns-clause-shown : goal.returns-clause-shown
returns-clause-shown g c =
    one_word c.in_ok-machine.machine.memory.ram c.args.address c.word.result c.word.ensures
    ∙ ap (λ m. words_in m.memory.ram c.args.address 1) c.in_ok-machine.ensures.state
