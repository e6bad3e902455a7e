use Rattle.std.proofs.Common.{arith}
use Rattle.sv8_search.proofs.Passed.{none_reached}
use Rattle.sv8_search.proofs.evidence.reaches_none.Goals as goal

pub returns-then-from : goal.returns-then-from
returns-then-from g c = λ e.
    none_reached g.row.K c.args.bench.now c.args.address c.args.from c.args.to c.is_unreached.result _ c.is_unreached.ensures e
    (omega (arith, c.if-from.true, c.from.ensures, c.sizes.ensures.pages))
