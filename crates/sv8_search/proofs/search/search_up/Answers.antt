use Rattle.std.proofs.Common.{◌-◌, ◌≡◌, ◌∙◌, ◌++◌, ◌≤◌, ◌⊎◌, inl, inr, map, sym, ap, arith}
use Rattle.sv8_workbench.specs.Kept.{Kept}
use Rattle.sv8_workbench.specs.Shown.{machine_state}
use Rattle.sv8_search.specs.Search.{olds_of, found_at, is_wanted, rising, looked_to}
use Rattle.sv8_search.proofs.Passing.{found_on, looked_on}
use Rattle.sv8_search.proofs.Searching.{all_risen, looked_end, searched_further, searched_stopped, searched_abandoned, searched_at}
use Rattle.sv8_search.proofs.search.search_up.Goals as goal
use Rattle.sv8_search.proofs.search.search_up.Goals.{then-loop-bench-test+else-left-gt0, else-loop-bench-test}

pub returns-in_err-left-clause-given_up : goal.returns-in_err-left-clause-given_up
returns-in_err-left-clause-given_up g c =
    let inv = c.loop-bench.invariant in
    searched_stopped c.sizes.ensures.some_steps c.args.from inv.begun inv.below inv.searched c.in_err-left.ensures.stopped

pub loop-bench-preserved : goal.loop-bench-preserved
loop-bench-preserved g c =
    let inv = c.loop-bench.invariant in
    let kept = c.args.bench.now.kept in
    let cs = c.args.conditions.now in
    let n = c.loop-bench.walk.step in
    let to = c.args.to in
    let left = c.loop-bench.left in
    let later = c.go_on.new.walk.step in
    let next = c.in_ok-left.left in
    let further = c.in_ok-left.ensures.further in
    let all = c.args.found.now.items ++ map (found_at kept) (rising (is_wanted kept cs) c.args.from (to - c.args.from) c.args.most) in
    let end = looked_to (is_wanted kept cs) c.args.from (to - c.args.from) c.args.most in
    record {
      walk = c.in_ok-left.ensures.walk;
      begun = omega (arith, inv.begun, further);
      below = c.in_ok-left.ensures.end;
      searched = searched_further c.sizes.ensures.some_steps c.args.from inv.begun (omega (arith, further)) inv.searched c.in_ok-left.ensures.walked;
      bytes = c.in_ok-left.ensures.bytes ∙ ap (λ (k : Kept). olds_of cs (machine_state k later).memory.ram) inv.searched.kept;
      count = c.in_ok-left.ensures.count;
      plan = c.in_ok-left.ensures.plan;
      planned = c.in_ok-left.ensures.planned;
      low = c.in_ok-left.ensures.low;
      found = found_on c.loop-bench.bench.kept kept cs inv.searched.kept n later to left next c.loop-bench.found.items c.go_on.new.found.items all c.in_ok-left.ensures.found inv.found;
      looked = looked_on c.loop-bench.bench.kept kept cs inv.searched.kept n later to left next end c.in_ok-left.ensures.looked inv.looked;
    }

pub returns-clause-found : goal.returns-clause-found
returns-clause-found g c =
    let inv = c.loop-bench.invariant in
    let kept = c.args.bench.now.kept in
    let cs = c.args.conditions.now in
    let n = c.loop-bench.walk.step in
    let done : (c.args.to ≤ n) ⊎ (c.loop-bench.left ≡ 0) =
    elim c.loop-bench-test.branch [ then-loop-bench-test+else-left-gt0 w ↦ inr (omega arith) | else-loop-bench-test w ↦ inl (omega arith) ] in
    let all = c.args.found.now.items ++ map (found_at kept) (rising (is_wanted kept cs) c.args.from (c.args.to - c.args.from) c.args.most) in
    all_risen kept cs n c.args.to c.loop-bench.left done c.loop-bench.found.items all inv.found

pub returns-clause-searched : goal.returns-clause-searched
returns-clause-searched g c =
    let inv = c.loop-bench.invariant in
    let kept = c.args.bench.now.kept in
    let cs = c.args.conditions.now in
    let n = c.loop-bench.walk.step in
    let done : (c.args.to ≤ n) ⊎ (c.loop-bench.left ≡ 0) =
    elim c.loop-bench-test.branch [ then-loop-bench-test+else-left-gt0 w ↦ inr (omega arith) | else-loop-bench-test w ↦ inl (omega arith) ] in
    let end = looked_to (is_wanted kept cs) c.args.from (c.args.to - c.args.from) c.args.most in
    searched_at g.row.K c.args.from n end c.args.bench.now c.loop-bench.bench (sym (looked_end kept cs n c.args.to c.loop-bench.left done) ∙ inv.looked) inv.searched

pub returns-clause-given_up : goal.returns-clause-given_up
returns-clause-given_up g c =
    let inv = c.loop-bench.invariant in
    searched_abandoned c.sizes.ensures.some_steps c.args.from inv.begun inv.below inv.searched
