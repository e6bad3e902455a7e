-- Runs of two workbenches whose processors are the same for some steps.
use Rattle.std.specs.Prelude.{◌≡◌, ℕ, ◌≤◌}
use Rattle.sv8_cpu.specs.State.{State}
use Rattle.sv8_cpu.specs.Sameness.{IsSameProcessor}
use Rattle.sv8_workbench.specs.Kept.{Kept}
use Rattle.sv8_workbench.specs.Shown.{machine_state}
use Rattle.sv8_walks.specs.Lockstep.{lent}

-- at each step from one up to another, that one too, both have the same processor
pub record AreAlikeBetween (first last : ℕ) (old new : Kept) : Type 0 where
  pub processors : (n : ℕ) → first ≤ n → n ≤ last → IsSameProcessor (machine_state old n) (machine_state new n)

-- two machines have come to a step of the runs of both, the second but for its processor, which is that of the first
pub record AreInLockstep (now before : Kept) (n : ℕ) (s t : State) : Type 0 where
  pub state : s ≡ machine_state now n
  pub others : lent s t ≡ machine_state before n
  pub mmu : t.mmu ≡ s.mmu
