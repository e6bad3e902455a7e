use Rattle.std.proofs.Common.{refl, arith, ◌+◌}
use Rattle.sv8_time.proofs.Common.{length-arrived}
use Rattle.sv8_memory.proofs.Late.{below_grows}
use Rattle.sv8_memory.proofs.feed.Feed.of_step.Goals as goal

pub returns : goal.returns
returns c =
    let count = length-arrived (c.args.n + 1) c.args.timeline.now in
    record {
      arrived = refl;
      begins = λ m few. let grows = below_grows c.args.n c.args.timeline.now.inputs in omega (arith, grows, few, count);
      ends = λ m few. omega (arith, few, count);
    }
