use Rattle.std.proofs.Common.{rules, ◌≡◌, ◌-◌, false, length, get_or, take, drop}
use Rattle.sv8_phys.specs.Memory.{ram_size}
use Rattle.sv8_watch.specs.declared.condition.Condition.TheVariants.{Pc}
use Rattle.sv8_watch.specs.Conditions.{meets}
use Rattle.sv8_search.proofs.Compared.{first_and_rest, others_inside, others_count, others_old, first_old}
use Rattle.sv8_search.proofs.Passed.{none_of_all}
use Rattle.sv8_search.proofs.search.may_meet_any.Goals as goal

pub loop-rest-preserved : goal.loop-rest-preserved
loop-rest-preserved g c =
    let all = c.loop-rest.rest.now in
    let inv = c.loop-rest.invariant in
    let bytes = c.loop-rest.bytes.now in
    let first = get_or all 0 (Pc 0) in
    let others = take (length all - 1) (drop 1 all) in
    let whole = first_and_rest all (Pc 0) c.in-len1-up.len_at_least in
    let missed : c.may_be_met.result ≡ false = search rules in
    record {
      inside = others_inside first others all whole (ram_size g.row.PAGES) inv.inside;
      count = others_count first others all whole bytes c.split_at.result.1.now c.old_count.result inv.count c.old_count.ensures c.split_at.ensures.back_len;
      old = λ s e.
          others_old first others all whole bytes c.split_at.result.1.now s.memory.ram c.old_count.result inv.count (inv.old s e) c.old_count.ensures c.split_at.ensures.back;
      missed = λ s made e rest.
          let own = first_old first others all whole bytes c.split_at.result.0.now s c.old_count.result inv.count (inv.old s e) c.old_count.ensures c.split_at.ensures.front in
          inv.missed s made e
          (none_of_all (meets g.row.NW g.row.PAGES c.args.timeline.now c.args.n s) first others all whole (c.may_be_met.ensures s made own missed) rest);
    }
