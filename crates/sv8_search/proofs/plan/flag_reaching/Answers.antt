use Rattle.std.proofs.Common.{◌+◌, arith}
use Rattle.sv8_search.proofs.Planning.{unreached_missed}
use Rattle.sv8_search.proofs.plan.flag_reaching.Goals as goal

pub returns-then-from : goal.returns-then-from
returns-then-from g c =
    let h = c.flag_reaching.ensures in
    record {
      count = h.count;
      missed = λ i inside unset.
          let it = h.spared i inside unset in
          (it.0, unreached_missed g.row.K c.args.bench.now (c.args.from + i) c.args.address (omega (arith, c.if-from.true, c.from.ensures, c.sizes.ensures.pages)) it.1);
    }
