-- What an access may change beside the outside: the registers of the memory management unit and the timer. And what it leads to.
use Rattle.std.specs.Prelude.{ℕ, ◌==◌, Bool, not, ◌&&◌, if◌then◌else◌}
use Rattle.sv8_phys.specs.declared.timer.Timer.{Timer}
use Rattle.sv8_mmu.specs.declared.registers.Mmu.{Mmu}
use Rattle.sv8_mmu.specs.declared.registers.Fault.{Fault}
use Rattle.sv8_mmu.specs.Registers.{has_no_fault, recorded}
use Rattle.sv8_trap.specs.declared.table.Trap.{Trap}
use Rattle.sv8_trap.specs.declared.request.Response.{Response}
use Rattle.sv8_trap.specs.declared.request.Response.TheVariants.{Value, Refused}

pub record Units : Type 0 where
  pub mmu : Mmu
  pub timer : Timer

-- an access is answered, and leaves the units so
pub record Served : Type 0 where
  pub response : Response
  pub units : Units

abbrev pub served : Units → ℕ → Served
served u value = record { response = Value value; units = u }

-- ---- faults (Appendix H)

-- with NF set a fault outside the supervisor's instruction space raises no trap
unfoldable pub is_hidden : Mmu → ℕ → Bool
is_hidden m asi = has_no_fault m && not (asi == 9)

-- a fault is recorded; it raises the trap, or gives 0 where it is hidden
unfoldable pub failed : Units → Trap → ℕ → Fault → Served
failed u trap asi f = record { response = if is_hidden u.mmu asi then Value 0 else Refused trap; units = record u { mmu = recorded u.mmu f } }
