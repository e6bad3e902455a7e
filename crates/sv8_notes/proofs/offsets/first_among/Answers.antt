use Rattle.std.proofs.Common.{◌==◌}
use Rattle.sv8_notes.proofs.Firsts.{first_taken}
use Rattle.sv8_notes.proofs.offsets.first_among.Goals as goal

pub loop-offset-preserved : goal.loop-offset-preserved
loop-offset-preserved c =
    first_taken (λ y n. y == n) c.args.offsets.now c.loop-offset.offset-index _ c.args.from c.args.end c.loop-offset.found c.within.result c.lesser-found.result
    c.loop-offset-test.true c.lesser-found.ensures c.loop-offset.invariant c.within.ensures
