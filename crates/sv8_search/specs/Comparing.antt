-- What differs between a workbench and the one that was kept.
use Rattle.std.specs.Prelude.{◌≡◌, ℕ, ◌*◌, ◌/◌, ◌<◌, ◌≤◌, ◌==◌, Bool, not, List, map, Option, Some, None, nat_lt, ◌||◌, if◌then◌else◌}
use Rattle.sv8_model.specs.Outside.{word_of}
use Rattle.sv8_regs.specs.Current.{other_windows}
use Rattle.sv8_cpu.specs.Sameness.{IsSameProcessor}
use Rattle.sv8_cpu.specs.State.{State}
use Rattle.sv8_time.specs.declared.fault.TimeFault.TheVariants.{StepTooLarge}
use Rattle.sv8_workbench.specs.declared.fault.BenchFault.{BenchFault}
use Rattle.sv8_workbench.specs.declared.fault.BenchFault.TheVariants.{Time}
use Rattle.sv8_workbench.specs.Kept.{Kept}
use Rattle.sv8_workbench.specs.Shown.{machine_state}
use Rattle.sv8_walks.specs.Walks.{IsWalk}
use Rattle.sv8_bench.specs.Workbench.{Workbench}
use Rattle.sv8_search.specs.declared.compare.Both.{Both}
use Rattle.sv8_search.specs.declared.difference.Difference.{Difference}
use Rattle.sv8_search.specs.Search.{rising}

abbrev pub range_refusal : ℕ → ℕ → Option BenchFault
range_refusal from to = if nat_lt 1000000 from || nat_lt 1000000 to then Some (Time StepTooLarge) else None

-- ---- processors

-- both have the same processor at step n: all that `regs` shows of it but the step, and the registers of all windows
abbrev pub AreAlike : Kept → Kept → ℕ → Type 0
AreAlike before now n = IsSameProcessor (machine_state before n) (machine_state now n)

-- the first step of a range at which they have not, or none
abbrev pub IsParted : Kept → Kept → ℕ → ℕ → Option ℕ → Type 0
IsParted before now from to (Some n) =
    (from ≤ n) × (n ≤ to) × ((m : ℕ) → from ≤ m → m < n → AreAlike before now m) × (AreAlike before now n → ⊥)
IsParted before now from to None = (m : ℕ) → from ≤ m → m ≤ to → AreAlike before now m

-- where a window is the current one in both states, they have the same registers outside it
abbrev pub AreSameOutside : ℕ → ℕ → State → State → Type 0
AreSameOutside windows window before now =
    before.processor.registers.cwp ≡ window → now.processor.registers.cwp ≡ window → other_windows windows before.processor.registers ≡ other_windows windows now.processor.registers

-- walks through the runs of both have come to a step
pub record AreWalks (k : ℕ) (now before : Workbench) (n : ℕ) {windows pages : ℕ} (both : Both windows pages) : Type 0 where
  pub now_walk : IsWalk k now both.walk
  pub before_walk : IsWalk k before both.other
  pub now_step : both.walk.step ≡ n
  pub before_step : both.other.step ≡ n

-- the last step that has to be looked at for it
abbrev pub parting : ℕ → Option ℕ → ℕ
parting to None = to
parting to (Some n) = n

-- ---- words of RAM

-- the word of this number is another one
abbrev pub differs_at : List ℕ → List ℕ → ℕ → Bool
differs_at before now i = not (word_of now i == word_of before i)

abbrev pub difference_at : List ℕ → List ℕ → ℕ → Difference
difference_at before now i = record { address = 4 * i; old = word_of before i; new = word_of now i }

-- the words that differ in RAM of a size, rising, and at most so many
abbrev pub differences : ℕ → List ℕ → List ℕ → ℕ → List Difference
differences size before now most = map (difference_at before now) (rising (differs_at before now) 0 (size / 4) most)
