use Rattle.std.proofs.Common.{subst}
use Rattle.sv8_notes.specs.Steps.{IsFirstBelow, has_word}
use Rattle.sv8_notes.specs.WordRuns.{words_of_run}
use Rattle.sv8_notes.proofs.RunsOfWords.{first_of_one_more}
use Rattle.sv8_notes.proofs.word_runs.first_of_runs.Goals as goal

pub loop-run-preserved : goal.loop-run-preserved
loop-run-preserved c =
    first_of_one_more c.args.runs.now c.loop-run.run-index c.run-item.result c.args.address c.args.from c.args.end c.loop-run.found c.first_of.result c.lesser-found.result
    c.loop-run-test.true c.lesser-found.ensures c.loop-run.invariant (subst (λ r. IsFirstBelow (has_word (words_of_run r) c.args.address) c.args.from c.args.end c.first_of.result) c.run-item.is c.first_of.ensures)
