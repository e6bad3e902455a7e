use Rattle.std.proofs.Common.{rules, arith}
use Rattle.sv8_bench.proofs.Queried.{fresh_is}
use Rattle.sv8_bench.proofs.bench.Bench.new.Goals as goal

pub invariant_of-result : goal.invariant_of-result
invariant_of-result g c = (
  c.requires.some_windows,
  c.requires.few_windows,
  c.requires.some_pages,
  c.requires.few_pages,
  c.requires.some_steps,
  c.requires.few_steps,
  search rules,
  search rules,
  record {
    events = search rules;
    sound = search rules;
    record_is = fresh_is g.row.NW g.row.PAGES g.row.K (omega (arith, c.requires.some_steps)) _ _ (search rules);
  },
)
