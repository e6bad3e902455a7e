-- Checkpoints in which pages and levels were changed since they were taken.
use Rattle.std.specs.Prelude.{ℕ, suc, length, map, List, [], ◌∷◌, Bool, Option}
use Rattle.std.specs.declared.rc.Rc.{Rc}
use Rattle.std.specs.declared.alloc.Global.{Global}
use Rattle.sv8_cpu.specs.State.{State}
use Rattle.sv8_trace.specs.Columns.{overlaid, AreColumns, AreIdleFrom}
use Rattle.sv8_trace.specs.Placing.{AreSound}

-- the machines as they were taken
abbrev pub taken : List (Rc State Global) → List State
taken machines = map (λ m. m.value) machines

-- the checkpoints from i on
abbrev pub all_overlaid : List (Option (List (List ℕ))) → List (Option (List Bool)) → ℕ → List State → List State
all_overlaid pages levels i [] = []
all_overlaid pages levels i (s ∷ ss) = overlaid pages levels i s ∷ all_overlaid pages levels (suc i) ss

-- no column goes on behind the last checkpoint
pub record AreOverlaid (pages : ℕ) (changed : List (Option (List (List ℕ)))) (levels : List (Option (List Bool))) (points : List State) : Type 0 where
  pub columns : AreColumns pages changed levels
  pub some_pages : AreIdleFrom (length points) changed
  pub some_levels : AreIdleFrom (length points) levels
  pub sound : AreSound pages points
