-- Where a trap leads.
use Rattle.std.specs.Prelude.{◌≡◌, ℕ, ◌/◌, ◌%◌, ◌^◌, ◌==◌, ◌&&◌, ◌||◌, Bool, false, not}
use Rattle.sv8_model.specs.declared.observation.Observation.{Observation}
use Rattle.sv8_model.specs.declared.observation.Observation.TheVariants as seen
use Rattle.sv8_time.specs.Order.{Each}
use Rattle.sv8_time.specs.Schedule.{Schedule}
use Rattle.sv8_trap.specs.Processor.{Processor}
use Rattle.sv8_cpu.specs.State.{State}
use Rattle.sv8_cpu.specs.Run.{step, observed}

-- a processor is in error mode, or its PC is the address in TBR: a trap leads to one of both (section 7.2), and few other steps do
abbrev pub is_at_trap : Processor → Bool
is_at_trap p = not p.running || p.pc == p.registers.tbr

-- the type of trap in the trap base register (tt, section 4.4)
abbrev pub trap_type_of : ℕ → ℕ
trap_type_of tbr = tbr / 2 ^ 4 % 2 ^ 8

-- a trap of this type leads there: into error mode, or to the address in TBR, whose tt is then the type (section 7.2)
abbrev pub is_at_trap_of : ℕ → Processor → Bool
is_at_trap_of type p = not p.running || (p.pc == p.registers.tbr && trap_type_of p.registers.tbr == type % 2 ^ 8)

-- it is not a trap that is seen
abbrev pub IsNoTrap : Observation → Type 0
IsNoTrap (seen.Fetch from word) = Unit {0}
IsNoTrap (seen.Access kind bytes va pa) = Unit {0}
IsNoTrap (seen.Trap tt) = ⊥

-- it is not a trap of this type that is seen
abbrev pub IsNoTrapOf : ℕ → Observation → Type 0
IsNoTrapOf type (seen.Fetch from word) = Unit {0}
IsNoTrapOf type (seen.Access kind bytes va pa) = Unit {0}
IsNoTrapOf type (seen.Trap tt) = type ≡ tt → ⊥

-- a step of a machine that ran led there, by the processors before and after it
abbrev pub may_have_trapped : Processor → Processor → Bool
may_have_trapped before after = before.running && is_at_trap after

-- A STEP THAT DID NOT takes no trap and no interrupt, and none that ends in error mode.
abbrev pub TrapsLeadThere : Type 0
TrapsLeadThere = (windows pages : ℕ) (schedule : Schedule) (n : ℕ) (s : State) → may_have_trapped s.processor (step windows pages schedule n s).processor ≡ false
    → Each IsNoTrap (observed windows pages schedule n s)

-- the same where a trap of one type leads
abbrev pub may_have_trapped_of : ℕ → Processor → Processor → Bool
may_have_trapped_of type before after = before.running && is_at_trap_of type after

-- A STEP THAT DID NOT takes no trap and no interrupt of this type, and none that ends in error mode.
abbrev pub TrapTypesLeadThere : Type 0
TrapTypesLeadThere = (type windows pages : ℕ) (schedule : Schedule) (n : ℕ) (s : State)
    → may_have_trapped_of type s.processor (step windows pages schedule n s).processor ≡ false → Each (IsNoTrapOf type) (observed windows pages schedule n s)
