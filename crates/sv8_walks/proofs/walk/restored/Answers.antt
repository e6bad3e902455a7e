use Rattle.std.proofs.Common.{◌≡◌, ◌∙◌, ◌/◌, inl, min, max, sym, ap, arith}
use Rattle.std.proofs.Math.Nat.{mul-le-mul_left, div-add-mod}
use Rattle.sv8_history.specs.Growing.{restored}
use Rattle.sv8_trace.specs.Recording.{trace_of}
use Rattle.sv8_workbench.specs.Shown.{machine_state}
use Rattle.sv8_bench.specs.Workbench.{checkpoints}
use Rattle.sv8_bench.proofs.Queried.{point_is, restored_at}
use Rattle.sv8_walks.proofs.walk.restored.Goals as goal

pub returns-clause-walk : goal.returns-clause-walk
returns-clause-walk g c =
    let k = g.row.K in
    let pos = c.sizes.ensures.some_steps in
    let n = c.args.step in
    let w = c.args.bench.now in
    let count = checkpoints w in
    let least = c.requires.recorded in
    let all : count ≡ max count (n / k) = omega (arith, least) in
    let low = mul-le-mul_left k least in
    let parts = div-add-mod n k in
    let point : c.in_ok-machine.machine ≡ (trace_of w.kept.windows w.kept.pages k w.recording).point (restored k count n) =
    rw (← c.trace.ensures) c.in_ok-machine.ensures in
    record {
      within = omega (arith, c.requires.step);
      state = point ∙ point_is k pos w.kept w.recording w.worked c.recorded-recorded.ensures.run (min count (n / k)) (omega arith)
          ∙ ap (machine_state w.kept) (sym (restored_at k count count n pos all));
      placed = inl (omega (arith, low, parts));
    }
