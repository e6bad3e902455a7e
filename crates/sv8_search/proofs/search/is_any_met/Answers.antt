use Rattle.std.proofs.Common.{◌∙◌, ◌-◌, length, get_or, take, drop}
use Rattle.sv8_watch.specs.declared.condition.Condition.TheVariants.{Pc}
use Rattle.sv8_watch.specs.Conditions.{is_met}
use Rattle.sv8_watch.specs.Watched.{happening_of}
use Rattle.sv8_phys.specs.Memory.{ram_size}
use Rattle.sv8_search.proofs.Compared.{first_and_rest, others_inside, others_count, others_old, first_old, any_here, any_later}
use Rattle.sv8_search.proofs.search.is_any_met.Goals as goal

pub returns-then-is_met : goal.returns-then-is_met
returns-then-is_met g c = λ before b e.
    let all = c.loop-rest.rest.now in
    let inv = c.loop-rest.invariant in
    let bytes = c.loop-rest.bytes.now in
    let first = get_or all 0 (Pc 0) in
    let others = take (length all - 1) (drop 1 all) in
    let whole = first_and_rest all (Pc 0) c.in-len1-up.len_at_least in
    let own = first_old first others all whole bytes c.split_at.result.0.now before c.old_count.result inv.count (inv.old before e) c.old_count.ensures c.split_at.ensures.front in
    let test = is_met c.args.step.now.n before c.args.step.now.after.now (happening_of before c.args.step.now) c.args.step.now.watch.now.touches in
    any_here first others all whole test c.is_met.result (c.is_met.ensures before b own) c.if-is_met.true
    ∙ inv.met before b e

pub loop-rest-preserved : goal.loop-rest-preserved
loop-rest-preserved g c =
    let all = c.loop-rest.rest.now in
    let inv = c.loop-rest.invariant in
    let bytes = c.loop-rest.bytes.now in
    let first = get_or all 0 (Pc 0) in
    let others = take (length all - 1) (drop 1 all) in
    let whole = first_and_rest all (Pc 0) c.in-len1-up.len_at_least in
    record {
      inside = others_inside first others all whole (ram_size g.row.PAGES) inv.inside;
      count = others_count first others all whole bytes c.split_at.result.1.now c.old_count.result inv.count c.old_count.ensures c.split_at.ensures.back_len;
      old = λ before e.
          others_old first others all whole bytes c.split_at.result.1.now before.memory.ram c.old_count.result inv.count (inv.old before e) c.old_count.ensures c.split_at.ensures.back;
      met = λ before b e.
          let own = first_old first others all whole bytes c.split_at.result.0.now before c.old_count.result inv.count (inv.old before e) c.old_count.ensures c.split_at.ensures.front in
          let test = is_met c.args.step.now.n before c.args.step.now.after.now (happening_of before c.args.step.now) c.args.step.now.watch.now.touches in
          any_later first others all whole test c.is_met.result (c.is_met.ensures before b own) c.if-is_met.false ∙ inv.met before b e;
    }
