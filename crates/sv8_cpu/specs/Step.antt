-- One step of the machine behind its events, as an action: the timer, and then an interrupt, an annulled slot, or one instruction.
use Rattle.std.specs.Prelude.{ℕ, List, [], ◌∷◌, ◌==◌, Option, Some, None, if◌then◌else◌}
use Rattle.sv8_isa.specs.declared.instr.Instr.{Instr}
use Rattle.sv8_isa.specs.Table.{meaning}
use Rattle.sv8_model.specs.declared.observation.Observation.{Observation}
use Rattle.sv8_model.specs.Action.{Action, done, ask_levels, observe, ◌>>=◌}
use Rattle.sv8_phys.specs.declared.timer.Timer.{Timer}
use Rattle.sv8_phys.specs.Devices.{tick}
use Rattle.sv8_trap.specs.declared.table.Trap.{Trap}
use Rattle.sv8_trap.specs.declared.table.Trap.TheVariants.{Interrupt}
use Rattle.sv8_trap.specs.Table.{taken}
use Rattle.sv8_trap.specs.Processor.{Processor, slot_skipped}
use Rattle.sv8_trap.specs.Entry.{with_trap, interrupted}
use Rattle.sv8_trap.specs.Interrupt.{unmasked, highest}
use Rattle.sv8_trap.specs.declared.request.AccessRequest.TheVariants.{Fetch}
use Rattle.sv8_trap.specs.declared.request.Response.{Response}
use Rattle.sv8_trap.specs.declared.request.Response.TheVariants.{Value, Refused}
use Rattle.sv8_model.specs.Words.{low_word}
use Rattle.sv8_iu.specs.Seen.{trap_seen}
use Rattle.sv8_iu.specs.Instruction.{raised, trapped, asked, complete}
use Rattle.sv8_memory.specs.Units.{Units, Served}
use Rattle.sv8_memory.specs.Access.{access}

-- what is not outside
pub record Inner : Type 0 where
  pub processor : Processor
  pub units : Units

-- ---- one instruction

-- the instruction's access is answered
abbrev pub answered : ℕ → Processor → Instr → Response → Processor
answered windows p i (Value value) = complete windows p i value
answered windows p i (Refused t) = with_trap windows p t

abbrev pub finished_access : ℕ → Processor → Instr → Served → Inner
finished_access windows p i s = record { processor = answered windows p i s.response; units = s.units }

-- an access that is refused raises a trap
abbrev pub observed_trap : {R : Type 0} → Response → Action R → Action R
observed_trap (Value value) a = a
observed_trap (Refused t) a = observe (trap_seen t) a

abbrev pub refusal_seen : Response → List Observation
refusal_seen (Value value) = []
refusal_seen (Refused t) = trap_seen t ∷ []

-- an instruction that raises a trap takes it; one that raises none makes its access
unfoldable pub executed : ℕ → ℕ → Inner → Instr → Option Trap → Action Inner
executed windows limit m i (Some t) = observe (trap_seen t) (done (record m { processor = trapped windows m.processor i t }))
executed windows limit m i None = access limit m.units (asked windows m.processor i) >>= λ s. observed_trap s.response (done (finished_access windows m.processor i s))

-- the word that was fetched is carried out
abbrev pub carried_out : ℕ → ℕ → Inner → ℕ → Action Inner
carried_out windows limit m word = executed windows limit m (meaning word) (taken (raised windows m.processor (meaning word)))

abbrev pub fetched : ℕ → ℕ → Processor → Response → Units → Action Inner
fetched windows limit p (Refused t) u = observe (trap_seen t) (done (record { processor = with_trap windows p t; units = u }))
fetched windows limit p (Value value) u = carried_out windows limit (record { processor = p; units = u }) (low_word value)

-- one instruction is fetched and carried out
unfoldable pub instruction : ℕ → ℕ → Inner → Action Inner
instruction windows limit m =
    access limit m.units (Fetch m.processor.registers.psr.s m.processor.pc) >>= λ s. fetched windows limit m.processor s.response s.units

-- ---- the whole step

-- an annulled slot is passed over with no access to memory
unfoldable pub continued : ℕ → ℕ → Inner → Action Inner
continued windows limit m = if m.processor.annul then done (record m { processor = slot_skipped m.processor }) else instruction windows limit m

-- the highest of the pending levels that are not masked interrupts; where there is none, the program goes on
unfoldable pub requested : ℕ → ℕ → Inner → ℕ → Action Inner
requested windows limit m word =
    if highest word == 0 then continued windows limit m
    else observe (trap_seen (Interrupt (highest word))) (done (record m { processor = interrupted windows m.processor (highest word) }))

-- with traps enabled, every level that is not masked is asked for
unfoldable pub interruptible : ℕ → ℕ → Inner → Action Inner
interruptible windows limit m =
    if m.processor.registers.psr.et
    then (ask_levels (unmasked m.processor.registers.psr.pil) (λ word. done word) >>= requested windows limit m)
    else continued windows limit m

-- the machine with another timer
abbrev pub with_timer : Inner → Timer → Inner
with_timer m timer = record m { units = record m.units { timer = timer } }

-- the timer's step comes before all else
unfoldable pub awake : ℕ → ℕ → Inner → Action Inner
awake windows limit m = tick m.units.timer >>= λ timer. interruptible windows limit (with_timer m timer)

-- in error mode nothing happens, not even at the timer
unfoldable pub action : ℕ → ℕ → Inner → Action Inner
action windows limit m = if m.processor.running then awake windows limit m else done m
