use Rattle.std.proofs.Common.{◌≡◌, ◌+◌, ◌++◌, length, map, drop, take}
use Rattle.sv8_time.specs.Schedule.{byte_count}
use Rattle.sv8_time.specs.Inputs.{starts_of}
use Rattle.sv8_time.proofs.starts.recount.Given as goal

abbrev pub invariant-loop-index : goal.invariant-loop-index
invariant-loop-index g l =
    let inputs = map g.H.Holder.held l.holders in
    record {
      same : length l.starts.items ≡ length l.holders;
      done : take l.index l.starts.items ++ starts_of l.total (drop l.index inputs) ≡ starts_of 0 inputs;
      sum : l.total + byte_count (drop l.index inputs) ≡ byte_count inputs;
    }
