use Rattle.std.proofs.Common.{◌≡◌, ◌∙◌, ◌⊎◌, ◌≤◌, ◌-◌, ◌++◌, inl, inr, length, map, take, reverse, refl, ap, arith}
use Rattle.sv8_workbench.specs.Kept.{Kept}
use Rattle.sv8_search.specs.Search.{found_at, is_wanted, rising, falling, sought_to}
use Rattle.sv8_search.proofs.Falling.{falling_next, sought_next, all_fallen, lowest_sought}
use Rattle.sv8_search.proofs.Sought.{divided, within_interval, interval_sought, sought_down, sought_abandoned}
use Rattle.sv8_search.proofs.descent.search_down.Goals as goal
use Rattle.sv8_search.proofs.descent.search_down.Goals.{then-loop-end-test+else-left-gt0, else-loop-end-test}

pub loop-end-init : goal.loop-end-init
loop-end-init g c = record {
  low = omega (arith, c.requires.ordered);
  high = omega arith;
  kept = refl;
  fewest = omega arith;
  most = omega arith;
  down = inl (refl, refl, refl);
  found = refl;
  sought = refl;
}

pub loop-end-preserved : goal.loop-end-preserved
loop-end-preserved g c =
    let k = g.row.K in
    let pos = c.sizes.ensures.some_steps in
    let inv = c.loop-end.invariant in
    let kept = c.args.bench.now.kept in
    let cs = c.args.conditions.now in
    let wanted = is_wanted kept cs in
    let to = c.args.to in
    let end = c.loop-end.end in
    let left = c.loop-end.left in
    let start = c.interval_start-start.result in
    let next = c.in_ok-left.left in
    let size = end - start in
    let from_start = c.interval_start-start.ensures in
    let lower = interval_sought k c.args.from to pos c.args.bench.now c.loop-end.bench c.search_interval.new.bench end start c.loop-end-test.true inv.high from_start inv.down
    c.in_ok-left.ensures.sought in
    let more = lower.fewest in
    let most = lower.most in
    let below = divided k end c.args.from pos inv.high in
    let rest : next ≡ left - length (rising wanted start size size) =
    c.in_ok-left.ensures.left ∙ ap (λ (x : Kept). left - length (rising (is_wanted x cs) start size size)) inv.kept in
    let found = c.in_ok-left.ensures.found
    ∙ ap (λ (x : Kept). c.loop-end.found.items ++ map (found_at x) (take left (reverse (rising (is_wanted x cs) start size size)))) inv.kept in
    let all = c.args.found.now.items ++ map (found_at kept) (falling wanted to (c.args.from - to) c.args.most) in
    record {
      low = from_start.low;
      high = omega (arith, from_start.below, inv.high);
      kept = lower.kept ∙ inv.kept;
      fewest = omega (arith, inv.fewest, more);
      most = omega (arith, inv.most, most, below);
      down = lower.down;
      found = falling_next wanted to start end left next from_start.low from_start.below rest (found_at kept) c.loop-end.found.items c.search_interval.new.found.items all found inv.found;
      sought = sought_next wanted to start end left next from_start.low from_start.below rest k pos c.if-left-gt0.true (within_interval k to end start pos from_start) ∙ inv.sought;
    }

pub returns-in_err-left-clause-given_up : goal.returns-in_err-left-clause-given_up
returns-in_err-left-clause-given_up g c =
    let inv = c.loop-end.invariant in
    sought_abandoned g.row.K c.args.from c.args.to c.sizes.ensures.some_steps c.loop-end.end c.interval_start-start.result c.args.bench.now c.loop-end.bench c.search_interval.new.bench
    c.loop-end-test.true inv.high c.interval_start-start.ensures inv.kept inv.fewest inv.most inv.down c.in_err-left.ensures.given_up

pub returns-clause-found : goal.returns-clause-found
returns-clause-found g c =
    let inv = c.loop-end.invariant in
    let kept = c.args.bench.now.kept in
    let done : (c.loop-end.end ≤ c.args.to) ⊎ (c.loop-end.left ≡ 0) =
    elim c.loop-end-test.branch [ then-loop-end-test+else-left-gt0 w ↦ inr (omega arith) | else-loop-end-test w ↦ inl (omega arith) ] in
    all_fallen (is_wanted kept c.args.conditions.now) c.args.to c.loop-end.end c.loop-end.left inv.low done (found_at kept) c.loop-end.found.items _ inv.found

pub returns-clause-sought : goal.returns-clause-sought
returns-clause-sought g c =
    let inv = c.loop-end.invariant in
    let wanted = is_wanted c.args.bench.now.kept c.args.conditions.now in
    let to = c.args.to in
    let lowest = sought_to wanted to (c.args.from - to) c.args.most in
    let done : (c.loop-end.end ≤ to) ⊎ (c.loop-end.left ≡ 0) =
    elim c.loop-end-test.branch [ then-loop-end-test+else-left-gt0 w ↦ inr (omega arith) | else-loop-end-test w ↦ inl (omega arith) ] in
    sought_down g.row.K c.args.from to c.sizes.ensures.some_steps c.loop-end.end lowest c.args.bench.now c.loop-end.bench inv.kept inv.fewest inv.most
    (lowest_sought wanted to c.loop-end.end c.loop-end.left inv.low done g.row.K lowest inv.sought) inv.down
