-- Walks through the steps of a workbench's run, one by one.
use Rattle.std.specs.Prelude.{◌≡◌, ℕ, ◌+◌, ◌<◌, ◌≤◌, ◌⊎◌}
use Rattle.sv8_cpu.specs.State.{State}
use Rattle.sv8_walks.specs.Drafts.{IsDraft}
use Rattle.sv8_trace.specs.Recording.{recorded}
use Rattle.sv8_workbench.specs.Shown.{machine_state}
use Rattle.sv8_walks.specs.Made.{HasRoom}
use Rattle.sv8_bench.specs.Workbench.{Workbench}
use Rattle.sv8_walks.specs.declared.walk.Place.{Place}
use Rattle.sv8_walks.specs.declared.walk.Place.TheVariants.{Restored, Drafted}
use Rattle.sv8_walks.specs.declared.walk.Walk.{Walk}

-- the machine of a place
abbrev pub state_in : {windows pages : ℕ} → Place windows pages → State
state_in (Restored s) = s
state_in (Drafted d) = d.state

-- Of a step up to the last checkpoint, or where no checkpoint can follow, there is the machine alone. Above the last checkpoint there is the record of the
-- steps since.
abbrev pub IsPlaced : (k : ℕ) → Workbench → ℕ → {windows pages : ℕ} → Place windows pages → Type 0
IsPlaced k w n (Restored s) = (n ≤ recorded k w.recording) ⊎ (1000000 < recorded k w.recording + k)
IsPlaced k w n (Drafted d) = IsDraft w.kept.windows w.kept.pages k w.kept.timeline w.recording d × (n ≡ recorded k w.recording + d.count)

-- The next step can be made from there: of the machine alone where it is recorded already or no checkpoint can follow, else of the record.
abbrev pub IsReady : (k : ℕ) → Workbench → ℕ → {windows pages : ℕ} → Place windows pages → Type 0
IsReady k w n (Restored s) = (n < recorded k w.recording) ⊎ (1000000 < recorded k w.recording + k)
IsReady k w n (Drafted d) = HasRoom k w.recording

-- A WALK of a workbench has come to a step: it has the machine of that step.
pub record IsWalk (k : ℕ) (w : Workbench) {windows pages : ℕ} (walk : Walk windows pages) : Type 0 where
  pub within : walk.step ≤ 1000000
  pub state : state_in walk.place ≡ machine_state w.kept walk.step
  pub placed : IsPlaced k w walk.step walk.place
