use Rattle.std.proofs.Common.{◌≡◌, ◌+◌, ◌++◌, length}
use Rattle.sv8_watch.specs.Conditions.{bytes_from}
use Rattle.sv8_search.proofs.old_bytes.add_bytes.Given as goal

abbrev pub invariant-loop-place : goal.invariant-loop-place
invariant-loop-place g l = record {
  bytes : l.bytes.items ≡ l.fn.bytes.items ++ bytes_from l.address l.place l.machine.memory.ram;
  count : length l.bytes.items ≡ length l.fn.bytes.items + l.place;
}
