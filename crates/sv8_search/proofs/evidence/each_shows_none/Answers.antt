use Rattle.std.proofs.Common.{rules, ◌≡◌, ◌-◌, true, length, get_or, take, drop}
use Rattle.sv8_phys.specs.Memory.{ram_size}
use Rattle.sv8_watch.specs.declared.condition.Condition.TheVariants.{Pc}
use Rattle.sv8_watch.specs.Conditions.{meets}
use Rattle.sv8_workbench.specs.Shown.{machine_state}
use Rattle.sv8_search.proofs.Compared.{first_and_rest, others_inside}
use Rattle.sv8_search.proofs.Passed.{none_of_all}
use Rattle.sv8_search.proofs.evidence.each_shows_none.Goals as goal

pub loop-rest-preserved : goal.loop-rest-preserved
loop-rest-preserved g c =
    let all = c.loop-rest.rest.now in
    let inv = c.loop-rest.invariant in
    let first = get_or all 0 (Pc 0) in
    let others = take (length all - 1) (drop 1 all) in
    let whole = first_and_rest all (Pc 0) c.in-len1-up.len_at_least in
    let met : c.shows_none.result ≡ true = search rules in
    record {
      inside = others_inside first others all whole (ram_size g.row.PAGES) inv.inside;
      none = λ n low below rest.
          let kept = c.args.bench.now.kept in
          inv.none n low below
          (none_of_all (meets kept.windows kept.pages kept.timeline n (machine_state kept n)) first others all whole
          (c.shows_none.ensures met n low below) rest);
    }
