-- A monitor as its contracts see it.
use Rattle.std.specs.Prelude.{ℕ}
use Rattle.sv8_bench.specs.Workbench.{Workbench}

pub record Pair : Type 0 where
  -- the workbench that is edited
  pub current : Workbench
  -- the one that was kept of it
  pub before : Workbench
  -- up to this step the processors of both are known to be the same
  pub common : ℕ
