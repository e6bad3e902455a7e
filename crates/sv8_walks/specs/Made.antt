-- A step more of a workbench's run, which is made for a walk.
use Rattle.std.specs.Prelude.{◌≡◌, ℕ, ◌+◌, ◌/◌, ◌≤◌, ◌⊎◌, max}
use Rattle.sv8_cpu.specs.Work.{counted}
use Rattle.sv8_trace.specs.Recording.{Recording, recorded}
use Rattle.sv8_bench.specs.Workbench.{Workbench, checkpoints}

-- there is room for another checkpoint
abbrev pub HasRoom : ℕ → Recording → Type 0
HasRoom k r = recorded k r + k ≤ 1000000

-- Step n was made: it is recorded if it leads to the next checkpoint.
pub record IsMade (k n : ℕ) (old new : Workbench) : Type 0 where
  pub kept : new.kept ≡ old.kept
  pub recorded : checkpoints new ≡ max (checkpoints old) ((n + 1) / k)
  pub worked : new.worked ≡ counted old.worked

-- It was not, for want of memory; it may be counted.
pub record IsUnmade (old new : Workbench) : Type 0 where
  pub kept : new.kept ≡ old.kept
  pub recorded : new.recording ≡ old.recording
  pub worked : (new.worked ≡ old.worked) ⊎ (new.worked ≡ counted old.worked)
