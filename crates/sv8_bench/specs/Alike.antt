-- Workbenches whose processors are the same at their first steps.
use Rattle.std.specs.Prelude.{ℕ, ◌≤◌}
use Rattle.sv8_cpu.specs.Sameness.{IsSameProcessor}
use Rattle.sv8_trace.specs.Recording.{recorded}
use Rattle.sv8_workbench.specs.Kept.{Kept}
use Rattle.sv8_workbench.specs.Shown.{machine_state}
use Rattle.sv8_bench.specs.Workbench.{Workbench}

-- at each step from reset up to one, that one too, both have the same processor
pub record AreAlikeUpTo (last : ℕ) (old new : Kept) : Type 0 where
  pub processors : (n : ℕ) → n ≤ last → IsSameProcessor (machine_state old n) (machine_state new n)

-- WHAT STAYS RECORDED HAS THE PROCESSORS THAT IT HAD, whatever was done to a workbench
abbrev pub StaysAlike : ℕ → Workbench → Workbench → Type 0
StaysAlike k old new = AreAlikeUpTo (recorded k new.recording) old.kept new.kept
