-- The parts of a step, one after another.
use Rattle.std.proofs.Common.{◌≡◌, ℕ, true, Option, Some, None, [], ◌∷◌, refl, sym, ◌∙◌, subst}
use Rattle.sv8_isa.specs.declared.instr.Instr.{Instr}
use Rattle.sv8_isa.specs.declared.instr.Instr.TheVariants.{Memory}
use Rattle.sv8_isa.specs.declared.instr.MemoryOp.{MemoryOp}
use Rattle.sv8_isa.specs.declared.instr.Operand.{Operand}
use Rattle.sv8_isa.specs.Table.{meaning}
use Rattle.sv8_model.specs.Outside.{Outside}
use Rattle.sv8_model.specs.Action.{done, ask_levels, observe}
use Rattle.sv8_model.specs.Does.{Does, Noting, noting}
use Rattle.sv8_model.proofs.Common.{does_then, does_done, does_observe, does_if_true}
use Rattle.sv8_phys.specs.declared.timer.Timer.{Timer}
use Rattle.sv8_phys.specs.Devices.{tick}
use Rattle.sv8_trap.specs.declared.table.Trap.{Trap}
use Rattle.sv8_trap.specs.Table.{taken}
use Rattle.sv8_trap.specs.Processor.{Processor}
use Rattle.sv8_trap.specs.Interrupt.{unmasked}
use Rattle.sv8_trap.specs.declared.request.AccessRequest.{AccessRequest}
use Rattle.sv8_trap.specs.declared.request.AccessRequest.TheVariants.{Nothing, Fetch}
use Rattle.sv8_trap.specs.declared.request.Response.{Response}
use Rattle.sv8_trap.specs.declared.request.Response.TheVariants.{Value, Refused}
use Rattle.sv8_memory.specs.Units.{Served, served}
use Rattle.sv8_memory.specs.Access.{access}
use Rattle.sv8_iu.specs.Operands.{sum_of_sources}
use Rattle.sv8_iu.specs.Memory.{memory_traps, access_of}
use Rattle.sv8_iu.specs.Instruction.{raised, asked, trapped, data_space, ended, IsUnaided}
use Rattle.sv8_iu.specs.Seen.{trap_seen, taken_seen}
use Rattle.sv8_cpu.specs.Step.{Inner, refusal_seen, observed_trap, answered, finished_access, executed, carried_out, fetched, instruction, requested, interruptible, with_timer, awake}

-- a trap is seen, and then something is there
pub does_trap : {A : Type 0} (way : Noting) (t : Trap) (x y : A) (o : Outside) (ns ns1 : way.Taken) → ns1 ≡ noting way ns [] (trap_seen t ∷ []) → y ≡ x
    → Does way (observe (trap_seen t) (done x)) o o y ns ns1
does_trap way t x y o ns ns1 see e = does_observe way (trap_seen t) (done x) o o y ns ns1 ns1 see (does_done way x y o ns1 e)

-- the same of an access, whose answer may raise a trap
does_answered : {A : Type 0} (way : Noting) (r : Response) (x y : A) (o : Outside) (ns ns1 : way.Taken) → ns1 ≡ noting way ns [] (refusal_seen r) → y ≡ x
    → Does way (observed_trap r (done x)) o o y ns ns1
does_answered way (Value v) x y o ns ns1 see e = subst (λ (n : way.Taken). Does way (done x) o o y n ns1) (see ∙ way.nothing ns) (does_done way x y o ns1 e)
does_answered way (Refused t) x y o ns ns1 see e = does_trap way t x y o ns ns1 see e

module _ (way : Noting) (windows limit : ℕ) (m : Inner) where
  -- an instruction raises a trap
  pub trap_taken : (o : Outside) (ns ns1 : way.Taken) (i : Instr) (raised : Option Trap) (t : Trap) (y : Inner) → raised ≡ Some t → ns1 ≡ noting way ns [] (trap_seen t ∷ [])
      → y ≡ record m { processor = trapped windows m.processor i t } → Does way (executed windows limit m i raised) o o y ns ns1
  unfolding executed
  trap_taken o ns ns1 i raised t y e see f = rw e (does_trap way t (record m { processor = trapped windows m.processor i t }) y o ns ns1 see f)

  -- an instruction's access is answered
  pub access_answered : (o o1 : Outside) (ns ns1 ns2 : way.Taken) (i : Instr) (q : AccessRequest) (s : Served) (y : Inner) → q ≡ asked windows m.processor i
      → Does way (access limit m.units q) o o1 s ns ns1 → ns2 ≡ noting way ns1 [] (refusal_seen s.response) → y ≡ finished_access windows m.processor i s
      → Does way (executed windows limit m i None) o o1 y ns ns2
  unfolding executed
  access_answered o o1 ns ns1 ns2 i q s y e h see f =
      does_then way (access limit m.units (asked windows m.processor i)) (λ z. observed_trap z.response (done (finished_access windows m.processor i z))) o o1 o1 s y ns ns1 ns2 (rw (← e) h)
      (does_answered way s.response (finished_access windows m.processor i s) y o1 ns1 ns2 see f)

  -- a word is carried out by the access of its instruction
  pub carried_out_by : (o o1 : Outside) (ns ns1 ns2 : way.Taken) (word : ℕ) (i : Instr) (q : AccessRequest) (s : Served) (y : Inner) → i ≡ meaning word
      → taken (raised windows m.processor i) ≡ None → q ≡ asked windows m.processor i → Does way (access limit m.units q) o o1 s ns ns1
      → ns2 ≡ noting way ns1 [] (refusal_seen s.response) → y ≡ finished_access windows m.processor i s → Does way (carried_out windows limit m word) o o1 y ns ns2
  carried_out_by o o1 ns ns1 ns2 word i q s y is none e h see f =
      subst (λ j. Does way (executed windows limit m j (taken (raised windows m.processor j))) o o1 y ns ns2) is
      (subst (λ t. Does way (executed windows limit m i t) o o1 y ns ns2) (sym none) (access_answered o o1 ns ns1 ns2 i q s y e h see f))

  -- a word is carried out by what its instruction makes of the processor alone
  pub carried_out_unaided : (o : Outside) (ns ns1 : way.Taken) (word : ℕ) (q : Processor) (y : Inner) → IsUnaided windows m.processor (meaning word) q
      → ns1 ≡ noting way ns [] (taken_seen (taken (raised windows m.processor (meaning word)))) → y ≡ record m { processor = q } → Does way (carried_out windows limit m word) o o y ns ns1
  unfolding access
  carried_out_unaided o ns ns1 word q y (unasked, is) see e = by_trap (taken (raised windows m.processor (meaning word))) see (e ∙ rw is refl)
    where
      by_trap : (t : Option Trap) → ns1 ≡ noting way ns [] (taken_seen t) → y ≡ record m { processor = ended windows m.processor (meaning word) t } → Does way (executed windows limit m (meaning word) t) o o y ns ns1
      by_trap None see e =
          access_answered o o ns ns ns1 (meaning word) Nothing (served m.units 0) y (sym unasked) (does_done way (served m.units 0) (served m.units 0) o ns refl) see e
      by_trap (Some t) see e = trap_taken o ns ns1 (meaning word) (Some t) t y refl see e

  -- a word is carried out by the access of a load or a store
  pub transferred : (o o1 : Outside) (ns ns1 ns2 : way.Taken) (word : ℕ) (op : MemoryOp) (rd rs1 : ℕ) (operand : Operand) (at : ℕ) (s : Served) (y : Inner)
      → meaning word ≡ Memory op rd rs1 operand → at ≡ sum_of_sources windows m.processor rs1 operand → taken (memory_traps op rd at) ≡ None
      → Does way (access limit m.units (access_of windows m.processor op (data_space m.processor) rd at)) o o1 s ns ns1
      → ns2 ≡ noting way ns1 [] (refusal_seen s.response) → y ≡ finished_access windows m.processor (Memory op rd rs1 operand) s → Does way (carried_out windows limit m word) o o1 y ns ns2
  transferred o o1 ns ns1 ns2 word op rd rs1 operand at s y is e none made see f =
      carried_out_by o o1 ns ns1 ns2 word (Memory op rd rs1 operand) (access_of windows m.processor op (data_space m.processor) rd at) s y (sym is) (rw (← e) none) (rw e refl) made see f

  module _ (o o1 o2 : Outside) (ns ns1 ns2 : way.Taken) (y : Inner) where
    -- a fetch is answered, and what follows
    pub instruction_by : (q : AccessRequest) (s : Served) → q ≡ Fetch m.processor.registers.psr.s m.processor.pc
        → Does way (access limit m.units q) o o1 s ns ns1 → Does way (fetched windows limit m.processor s.response s.units) o1 o2 y ns1 ns2
        → Does way (instruction windows limit m) o o2 y ns ns2
    unfolding instruction
    instruction_by q s e h k =
        does_then way (access limit m.units (Fetch m.processor.registers.psr.s m.processor.pc)) (λ z. fetched windows limit m.processor z.response z.units) o o1 o2 s y ns ns1 ns2 (rw (← e) h) k

    -- the levels are asked for, and what follows
    pub interruptible_by : (levels word : ℕ) → m.processor.registers.psr.et ≡ true → levels ≡ unmasked m.processor.registers.psr.pil
        → Does way (ask_levels levels (λ w. done w)) o o1 word ns ns1 → Does way (requested windows limit m word) o1 o2 y ns1 ns2
        → Does way (interruptible windows limit m) o o2 y ns ns2
    unfolding interruptible
    interruptible_by levels word on e h k =
        does_if_true way m.processor.registers.psr.et _ _ o o2 y ns ns2 on
        (does_then way (ask_levels (unmasked m.processor.registers.psr.pil) (λ w. done w)) (requested windows limit m) o o1 o2 word y ns ns1 ns2 (rw (← e) h) k)

    -- the timer's step, and what follows
    pub awake_by : (timer : Timer) (next : Inner) → next ≡ with_timer m timer → Does way (tick m.units.timer) o o1 timer ns ns1 → Does way (interruptible windows limit next) o1 o2 y ns1 ns2
        → Does way (awake windows limit m) o o2 y ns ns2
    unfolding awake
    awake_by timer next e h k = does_then way (tick m.units.timer) (λ t. interruptible windows limit (with_timer m t)) o o1 o2 timer y ns ns1 ns2 h (rw (← e) k)
