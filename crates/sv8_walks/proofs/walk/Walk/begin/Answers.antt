use Rattle.std.proofs.Common.{◌∙◌, ◌-◌, ◌*◌, ◌/◌, arith}
use Rattle.sv8_history.specs.Growing.{restored}
use Rattle.sv8_bench.specs.Workbench.{checkpoints}
use Rattle.sv8_bench.proofs.Queried.{counted_more, raised_more, query_steps, query_extends}
use Rattle.sv8_walks.proofs.walk.Walk.begin.Goals as goal

pub returns-in_err-record_below-clause-given_up : goal.returns-in_err-record_below-clause-given_up
returns-in_err-record_below-clause-given_up g c =
    let raised = c.record_below.ensures.raised in
    let few = query_extends g.row.K (checkpoints c.args.bench.now) c.args.step in
    record {
      kept = c.record_below.ensures.kept;
      fewest = c.record_below.ensures.fewest;
      most = c.record_below.ensures.most;
      worked = (raised.0, omega (arith, raised.1, few), raised.2);
    }

pub returns-in_err-walk-clause-given_up : goal.returns-in_err-walk-clause-given_up
returns-in_err-walk-clause-given_up g c =
    let raised = c.record_below.ensures.raised in
    let few = query_extends g.row.K (checkpoints c.args.bench.now) c.args.step in
    record {
      kept = c.record_below.ensures.kept;
      fewest = c.record_below.ensures.fewest;
      most = c.record_below.ensures.most;
      worked = (raised.0, omega (arith, raised.1, few), raised.2);
    }

pub returns-in_err-go_to-clause-given_up : goal.returns-in_err-go_to-clause-given_up
returns-in_err-go_to-clause-given_up g c =
    let k = g.row.K in
    let n = c.args.step in
    let old = checkpoints c.args.bench.now in
    let few = n - c.in_ok-walk.walk.step in
    let all = query_steps k old (checkpoints c.record_below.new.self) n c.sizes.ensures.some_steps c.in_ok-record_below.ensures.recorded in
    record {
      kept = c.go_to.ensures.kept ∙ c.record_below.ensures.kept;
      fewest = omega (arith, c.go_to.ensures.recorded, c.record_below.ensures.fewest);
      most = omega (arith, c.go_to.ensures.recorded, c.record_below.ensures.most);
      worked = raised_more (k * (n / k - old)) few (n - restored k old n) c.args.bench.now.worked c.record_below.new.self.worked c.go_to.new.bench.worked c.in_ok-record_below.ensures.counted
          c.go_to.ensures.raised (omega (arith, all, c.in_ok-walk.ensures.step));
    }

pub returns-clause-answered : goal.returns-clause-answered
returns-clause-answered g c =
    let k = g.row.K in
    let n = c.args.step in
    let old = checkpoints c.args.bench.now in
    let few = n - c.in_ok-walk.walk.step in
    let all = query_steps k old (checkpoints c.record_below.new.self) n c.sizes.ensures.some_steps c.in_ok-record_below.ensures.recorded in
    record {
      kept = c.go_to.ensures.kept ∙ c.record_below.ensures.kept;
      recorded = c.go_to.ensures.recorded ∙ c.in_ok-record_below.ensures.recorded;
      worked = counted_more few (k * (n / k - old)) (n - restored k old n) c.args.bench.now.worked c.record_below.new.self.worked c.go_to.new.bench.worked c.in_ok-record_below.ensures.counted
          c.in_ok-go_to.ensures.counted (omega (arith, all, c.in_ok-walk.ensures.step));
    }

pub returns-clause-given_up : goal.returns-clause-given_up
returns-clause-given_up g c =
    let k = g.row.K in
    let n = c.args.step in
    let old = checkpoints c.args.bench.now in
    let few = n - c.in_ok-walk.walk.step in
    let all = query_steps k old (checkpoints c.record_below.new.self) n c.sizes.ensures.some_steps c.in_ok-record_below.ensures.recorded in
    record {
      kept = c.go_to.ensures.kept ∙ c.record_below.ensures.kept;
      fewest = omega (arith, c.go_to.ensures.recorded, c.record_below.ensures.fewest);
      most = omega (arith, c.go_to.ensures.recorded, c.record_below.ensures.most);
      worked = raised_more (k * (n / k - old)) few (n - restored k old n) c.args.bench.now.worked c.record_below.new.self.worked c.go_to.new.bench.worked c.in_ok-record_below.ensures.counted
          c.go_to.ensures.raised (omega (arith, all, c.in_ok-walk.ensures.step));
    }
