use Rattle.sv8_notes.specs.Steps.{is_asked_in}
use Rattle.sv8_notes.proofs.Firsts.{first_taken}
use Rattle.sv8_notes.proofs.notes.Notes.first_asking.Goals as goal

pub loop-run-preserved : goal.loop-run-preserved
loop-run-preserved c =
    first_taken (λ y n. is_asked_in c.args.level n y) c.deref-run-items.result.now c.loop-run.run-index _ c.args.from c.args.end c.loop-run.found c.first_asking.result c.lesser-found.result
    c.loop-run-test.true c.lesser-found.ensures c.loop-run.invariant c.first_asking.ensures
