-- Ranges of recorded steps that leave some bytes of RAM alone, reach no instruction there, or show no sign.
use Rattle.std.specs.Prelude.{◌≡◌, ℕ, ◌+◌, ◌<◌, ◌≤◌, Bool, false}
use Rattle.sv8_model.specs.declared.touch.TouchKind.{TouchKind}
use Rattle.sv8_model.specs.declared.touch.TouchKind.TheVariants.{Any}
use Rattle.sv8_time.specs.Schedule.{Schedule, pokes_of_step}
use Rattle.sv8_cpu.specs.Touching.{IsUntranslated, SparesBytes, pokes_any}
use Rattle.sv8_evidence.specs.declared.signs.Sign.{Sign}
use Rattle.sv8_trace.specs.Recording.{recorded}
use Rattle.sv8_evidence.specs.Signs.{shows}
use Rattle.sv8_workbench.specs.Shown.{machine_state}
use Rattle.sv8_bench.specs.Workbench.{Workbench}

-- the events of a step poke one of so many bytes from an address on
abbrev pub pokes_at : Schedule → (address count n : ℕ) → Bool
pokes_at schedule address count n = pokes_any address count (pokes_of_step n schedule.pokes)

-- the events of no step from one on and below another poke one of so many bytes from an address on
abbrev pub NonePokes : Schedule → (address count from to : ℕ) → Type 0
NonePokes schedule address count from to = (n : ℕ) → from ≤ n → n < to → pokes_at schedule address count n ≡ false

-- THE STEPS FROM ONE ON AND BELOW ANOTHER ARE RECORDED, AND EACH OF THEM SPARES so many bytes from an address on: it touches none of their words, by the
-- touches that count, and its events poke none of them
pub record IsUntouched (kind : TouchKind) (k : ℕ) (w : Workbench) (address count from to : ℕ) : Type 0 where
  pub recorded : to ≤ recorded k w.recording
  pub spared : (n : ℕ) → from ≤ n → n < to → SparesBytes kind w.kept.windows w.kept.pages w.kept.timeline n (machine_state w.kept n) address count

-- THEY SPARE THE WORD AT AN ADDRESS, AND NO ADDRESS IS TRANSLATED in the state before each: none of them reaches an instruction there
pub record IsUnreached (k : ℕ) (w : Workbench) (address from to : ℕ) : Type 0 where
  pub untouched : IsUntouched Any k w address 4 from to
  pub untranslated : (n : ℕ) → from ≤ n → n < to → IsUntranslated (machine_state w.kept n)

-- THE STEPS FROM ONE ON AND BELOW ANOTHER ARE RECORDED, AND NONE OF THEM SHOWS A SIGN: where it is that of a trap, none of them takes one
pub record ShowsNone (sign : Sign) (k : ℕ) (w : Workbench) (from to : ℕ) : Type 0 where
  pub recorded : to ≤ recorded k w.recording
  pub apart : (n : ℕ) → from ≤ n → n < to → shows sign (machine_state w.kept n) (machine_state w.kept (n + 1)) ≡ false
