-- What the states before and after steps show.
use Rattle.std.specs.Prelude.{ℕ, zero, suc, ◌&&◌, ◌||◌, ◌++◌, ◌∷◌, [], Bool, false, if◌then◌else◌, List, Option, Some, None}
use Rattle.sv8_mmu.specs.Registers.{translates}
use Rattle.sv8_trap.specs.Processor.{Processor}
use Rattle.sv8_cpu.specs.State.{State}
use Rattle.sv8_cpu.specs.Trapping.{is_at_trap, trap_type_of}
use Rattle.sv8_trace.specs.declared.signs.TrapNote.{TrapNote}

pub record Signs : Type 0 where
  -- addresses are translated in the state before one of the steps
  pub translation : Bool
  -- the steps that led a machine that ran where a trap leads
  pub traps : List TrapNote

-- of no step
abbrev pub no_signs : Signs
no_signs = record { translation = false; traps = [] }

-- ---- what states show

-- the type of a trap that led to this processor, if it stands there
abbrev pub noted_type : Processor → Option ℕ
noted_type p = if p.running then Some (trap_type_of p.registers.tbr) else None

-- with a trap that led the step with this offset to this processor
abbrev pub with_trap : Signs → ℕ → Processor → Signs
with_trap s j p = record s { traps = s.traps ++ record { offset = j; trap_type = noted_type p } ∷ [] }

-- with what the processor after the step with this offset shows, where it ran before the step or did not
abbrev pub with_end : Signs → ℕ → Bool → Processor → Signs
with_end s j ran p = if ran && is_at_trap p then with_trap s j p else s

-- with those of the step with this offset
abbrev pub with_step : Signs → ℕ → State → State → Signs
with_step s j before after = with_end (record s { translation = s.translation || translates before.mmu }) j before.processor.running after.processor

-- the signs of the first steps, by the states before and after each
abbrev pub signs_among : (ℕ → State) → ℕ → Signs
signs_among states zero = no_signs
signs_among states (suc count) = with_step (signs_among states count) count (states count) (states (suc count))
