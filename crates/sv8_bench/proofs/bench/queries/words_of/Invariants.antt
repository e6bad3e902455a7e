use Rattle.std.proofs.Common.{◌≡◌}
use Rattle.sv8_workbench.specs.Shown.{words_in}
use Rattle.sv8_bench.proofs.bench.queries.words_of.Given as goal

abbrev pub invariant-loop-index : goal.invariant-loop-index
invariant-loop-index g l = l.words.items ≡ words_in l.machine.memory.ram l.address l.index
