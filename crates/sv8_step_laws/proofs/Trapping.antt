-- A trap leads into error mode, or to the address in TBR, whose tt is its type; nothing else is seen as one.
use Rattle.std.proofs.Common.{◌≡◌, ◌≢◌, ◌⊎◌, inl, inr, ℕ, ◌+◌, ◌%◌, ◌^◌, ◌==◌, Bool, true, false, cond, nat_lt, List, [], ◌∷◌, Result, Ok, Err, Option, Some, None, refl, sym, ◌∙◌, ap, subst, arith}
use Rattle.std.specs.Prelude.{not, ◌&&◌, ◌||◌}
use Rattle.std.proofs.Math.Bool.{or-true}
use Rattle.std.proofs.lemmas.Bool.{false≢true, cases_eq}
use Rattle.std.proofs.lemmas.Bool.Decides.{nat_tests}
use Rattle.sv8_isa.specs.declared.instr.Instr.{Instr}
use Rattle.sv8_isa.specs.declared.instr.Instr.TheVariants as row
use Rattle.sv8_model.specs.declared.observation.AccessKind.{AccessKind}
use Rattle.sv8_model.specs.declared.observation.AccessKind.TheVariants as kind
use Rattle.sv8_model.specs.declared.observation.Observation.{Observation}
use Rattle.sv8_model.specs.declared.observation.Observation.TheVariants as seen
use Rattle.sv8_model.specs.Outside.{Outside}
use Rattle.sv8_model.specs.Action.{Action, done, observe, ◌>>=◌, result_of, after, observations}
use Rattle.sv8_model.proofs.Actions.{result_of-then, observations-then}
use Rattle.sv8_time.specs.Order.{Each}
use Rattle.sv8_time.proofs.Parts.{each_append}
use Rattle.sv8_model.specs.declared.size.Size.{Size}
use Rattle.sv8_model.specs.declared.size.Size.TheVariants.{Byte, Half, Word, Double}
use Rattle.sv8_phys.specs.declared.timer.Timer.{Timer}
use Rattle.sv8_time.specs.Schedule.{arrived}
use Rattle.sv8_phys.specs.Contents.{outside_of}
use Rattle.sv8_phys.specs.Memory.{ram_size}
use Rattle.sv8_phys.specs.Devices.{ram_load, ram_store, load, store}
use Rattle.sv8_mmu.specs.declared.access_type.AccessType.{AccessType}
use Rattle.sv8_mmu.specs.declared.translation.Reach.{Reach}
use Rattle.sv8_mmu.specs.declared.translation.Reach.TheVariants as reach
use Rattle.sv8_mmu.specs.declared.translation.Translated.{Translated}
use Rattle.sv8_mmu.specs.declared.translation.Translated.TheVariants as translated
use Rattle.sv8_regs.specs.Control.{with_trap_type}
use Rattle.sv8_trap.specs.declared.table.Trap.{Trap}
use Rattle.sv8_trap.specs.declared.table.Trap.TheVariants as cause
use Rattle.sv8_trap.specs.Table.{row_of}
use Rattle.sv8_trap.specs.Processor.{Processor}
use Rattle.sv8_trap.specs.Entry.{trap_registers, entered_from, interrupted, with_trap, with_return_trap}
use Rattle.sv8_trap.specs.Interrupt.{highest}
use Rattle.sv8_trap.specs.declared.request.AccessRequest.{AccessRequest}
use Rattle.sv8_trap.specs.declared.request.AccessRequest.TheVariants as request
use Rattle.sv8_trap.specs.declared.request.Response.{Response}
use Rattle.sv8_trap.specs.declared.request.Response.TheVariants.{Value, Refused}
use Rattle.sv8_trap.specs.declared.request.Space.{Space}
use Rattle.sv8_trap.specs.declared.request.Space.TheVariants as space
use Rattle.sv8_trap.specs.Requests.{space_of}
use Rattle.sv8_iu.specs.Instruction.{trapped, asked}
use Rattle.sv8_memory.specs.Units.{Units, Served, served}
use Rattle.sv8_memory.specs.Access.{access_seen, observed, takes_byte, counts_bytes, is_word, fetched_from, plainly_loaded, loaded_from, stored_at, exchanged_at, located, at_virtual, reach_of, loaded_in, stored_in, exchanged_in, access, physical_place}
use Rattle.sv8_cpu.specs.State.{inner_of}
use Rattle.sv8_cpu.specs.Step.{Inner, observed_trap, executed, fetched, finished_access, instruction, continued, requested, interruptible, awake, action}
use Rattle.sv8_cpu.specs.Run as run
use Rattle.sv8_cpu.specs.Trapping.{is_at_trap, is_at_trap_of, trap_type_of, IsNoTrap, IsNoTrapOf, TrapsLeadThere, TrapTypesLeadThere}
use Rattle.sv8_step_laws.proofs.Seen.{Silent, silent_done, silent_if, silent_then, silent_outside_load, silent_outside_store, silent_probe, silent_tick, silent_translate}

-- ---- actions of which no trap is seen

record Trapless {R : Type 0} (a : Action R) : Type 0 where
  pub none : (o : Outside) → Each IsNoTrap (observations a o)

trapless_silent : {R : Type 0} (a : Action R) → Silent a → Trapless a
trapless_silent a s = record { none = λ o. subst (Each IsNoTrap) (sym (s.none o)) tt }

trapless_done : {R : Type 0} (x : R) → Trapless (done x)
trapless_done x = record { none = λ o. tt }

trapless_if : {R : Type 0} (b : Bool) (x y : Action R) → Trapless x → Trapless y → Trapless (cond b x y)
trapless_if true x y p q = p
trapless_if false x y p q = q

trapless_then : {A B : Type 0} (a : Action A) (f : A → Action B) → Trapless a → ((x : A) → Trapless (f x)) → Trapless (a >>= f)
trapless_then a f p q = record {
  none = λ o.
      subst (Each IsNoTrap) (sym (observations-then a f o))
      (each_append IsNoTrap (observations a o) (observations (f (result_of a o)) (after a o)) (p.none o) ((q (result_of a o)).none (after a o)));
}

-- an access is seen where it is answered
trapless_answer : {A E R : Type 0} (answer : Result A E) (kind : AccessKind) (size : Size) (va pa : ℕ) (x : R) → Trapless (observed answer (access_seen kind size va pa) (done x))
trapless_answer (Ok value) kind size va pa x = record { none = λ o. (tt, tt) }
trapless_answer (Err e) kind size va pa x = trapless_done x

-- ---- accesses at a physical address

silent_ram_load : (size : Size) (pa : ℕ) → Silent (ram_load size pa)
silent_ram_load Byte pa = record { none = λ o. refl }
silent_ram_load Half pa = record { none = λ o. refl }
silent_ram_load Word pa = record { none = λ o. refl }
silent_ram_load Double pa = record { none = λ o. refl }

silent_ram_store : {R : Type 0} (size : Size) (pa value : ℕ) (x : R) → Silent (ram_store size pa value x)
silent_ram_store Byte pa value x = record { none = λ o. refl }
silent_ram_store Half pa value x = record { none = λ o. refl }
silent_ram_store Word pa value x = record { none = λ o. refl }
silent_ram_store Double pa value x = record { none = λ o. refl }

silent_load : (limit : ℕ) (timer : Timer) (size : Size) (pa : ℕ) → Silent (load limit timer size pa)
silent_load limit timer size pa =
    silent_if (nat_lt pa limit) _ _ (silent_then _ _ (silent_ram_load size pa) (λ value. silent_done _)) (silent_outside_load timer size pa)

silent_store : (limit : ℕ) (timer : Timer) (size : Size) (pa value : ℕ) → Silent (store limit timer size pa value)
silent_store limit timer size pa value = silent_if (nat_lt pa limit) _ _ (silent_ram_store size pa value _) (silent_outside_store timer size pa value)

module _ (limit : ℕ) (u : Units) (asi va pa : ℕ) where
  plain_trapless : (size : Size) → Trapless (plainly_loaded limit u size asi va pa)
  unfolding plainly_loaded
  plain_trapless size =
      trapless_then _ _ (trapless_silent _ (silent_load limit u.timer size pa)) (λ answer. trapless_answer answer kind.Load size va pa _)

  loaded_trapless : (size : Size) → Trapless (loaded_from limit u size asi va pa)
  unfolding loaded_from ◌>>=◌
  loaded_trapless size =
      trapless_if (takes_byte size pa) _ _ (record { none = λ o. (tt, tt) })
      (trapless_if (counts_bytes size pa) _ _ (record { none = λ o. (tt, tt) }) (plain_trapless size))

  stored_trapless : (size : Size) (value : ℕ) → Trapless (stored_at limit u size asi value va pa)
  unfolding stored_at
  stored_trapless size value =
      trapless_then _ _ (trapless_silent _ (silent_store limit u.timer size pa value)) (λ s. trapless_answer s.answer kind.Store size va pa _)

  exchange_trapless : (size : Size) (value : ℕ) → Trapless (observe (access_seen kind.Exchange size va pa) (ram_load size pa >>= λ old. ram_store size pa value (served u old)))
  unfolding ◌>>=◌
  exchange_trapless Byte value = record { none = λ o. (tt, tt) }
  exchange_trapless Half value = record { none = λ o. (tt, tt) }
  exchange_trapless Word value = record { none = λ o. (tt, tt) }
  exchange_trapless Double value = record { none = λ o. (tt, tt) }

  exchanged_trapless : (size : Size) (value : ℕ) → Trapless (exchanged_at limit u size asi value va pa)
  unfolding exchanged_at
  exchanged_trapless size value = trapless_if (nat_lt pa limit) _ _ (exchange_trapless size value) (trapless_done _)

  fetch_trapless : Trapless (fetched_from limit u asi va pa)
  unfolding fetched_from ◌>>=◌
  fetch_trapless = trapless_if (nat_lt pa limit) _ _ (record { none = λ o. (tt, tt) }) (trapless_done _)

-- ---- accesses at a virtual address

module _ (limit : ℕ) (u : Units) (trap : Trap) (asi : ℕ) (access_type : AccessType) (va : ℕ) (use_address : ℕ → Action Served) (use_trapless : (pa : ℕ) → Trapless (use_address pa)) where
  located_trapless : (t : Translated) → Trapless (located u trap asi access_type va use_address t)
  located_trapless (translated.At pa) = use_trapless pa
  located_trapless (translated.Refused kind level) = trapless_done _

  virtual_trapless : (reach : Reach) → Trapless (at_virtual limit u trap asi access_type reach va use_address)
  unfolding at_virtual
  virtual_trapless reach = trapless_then _ _ (trapless_silent _ (silent_translate limit u.mmu va access_type reach)) located_trapless

-- ---- accesses by the space

module _ (limit : ℕ) (u : Units) (size : Size) (asi at : ℕ) where
  load_in_trapless : (s : Space) → Trapless (loaded_in limit u size asi at s)
  load_in_trapless space.Virtual = virtual_trapless limit u _ asi _ at _ (λ pa. loaded_trapless limit u asi at pa size) (reach_of size)
  load_in_trapless (space.Physical high) = loaded_trapless limit u asi at (physical_place high at) size
  load_in_trapless space.Probing = trapless_silent _ (silent_if (is_word size) _ _ (silent_then _ _ (silent_probe limit u.mmu at) (λ entry. silent_done _)) (silent_done _))
  load_in_trapless space.Registers = trapless_done _
  load_in_trapless space.Unassigned = trapless_done _

  store_in_trapless : (value : ℕ) (s : Space) → Trapless (stored_in limit u size asi at value s)
  store_in_trapless value space.Virtual = virtual_trapless limit u _ asi _ at _ (λ pa. stored_trapless limit u asi at pa size value) (reach_of size)
  store_in_trapless value (space.Physical high) = stored_trapless limit u asi at (physical_place high at) size value
  store_in_trapless value space.Probing = trapless_done _
  store_in_trapless value space.Registers = trapless_done _
  store_in_trapless value space.Unassigned = trapless_done _

  exchange_in_trapless : (value : ℕ) (s : Space) → Trapless (exchanged_in limit u size asi at value s)
  exchange_in_trapless value space.Virtual = virtual_trapless limit u _ asi _ at _ (λ pa. exchanged_trapless limit u asi at pa size value) reach.Ram
  exchange_in_trapless value (space.Physical high) = exchanged_trapless limit u asi at (physical_place high at) size value
  exchange_in_trapless value space.Probing = trapless_done _
  exchange_in_trapless value space.Registers = trapless_done _
  exchange_in_trapless value space.Unassigned = trapless_done _

access_trapless : (limit : ℕ) (u : Units) (r : AccessRequest) → Trapless (access limit u r)
unfolding access
access_trapless limit u request.Nothing = trapless_done _
access_trapless limit u (request.Fetch supervisor at) = virtual_trapless limit u _ _ _ at _ (λ pa. fetch_trapless limit u _ at pa) reach.Ram
access_trapless limit u (request.Load size asi at) = load_in_trapless limit u size asi at (space_of asi)
access_trapless limit u (request.Store size asi at value) = store_in_trapless limit u size asi at value (space_of asi)
access_trapless limit u (request.Exchange size asi at value) = exchange_in_trapless limit u size asi at value (space_of asi)

-- ---- what a trap makes of the processor

same_number : (x : ℕ) → (x == x) ≡ true
same_number x = grind (arith, nat_tests)

-- its type stands in the trap base register
type_there : (tbr type : ℕ) → (trap_type_of (with_trap_type tbr type) == type % 2 ^ 8) ≡ true
type_there tbr type = grind (arith, nat_tests)

-- the type of a trap
abbrev type_of : Trap → ℕ
type_of t = (row_of t).trap_type

entered_there : (windows : ℕ) (p : Processor) (t : Trap) (pc npc : ℕ) → is_at_trap_of (type_of t) (entered_from windows p t pc npc) ≡ true
unfolding entered_from trap_registers
entered_there windows p t pc npc =
    ap (λ b. not p.running || (b && trap_type_of (with_trap_type p.registers.tbr (type_of t)) == type_of t % 2 ^ 8)) (same_number _)
    ∙ ap (λ b. not p.running || b) (type_there p.registers.tbr (type_of t)) ∙ or-true (not p.running)

there_if : (type : ℕ) (b : Bool) (p q : Processor) → is_at_trap_of type p ≡ true → is_at_trap_of type q ≡ true → is_at_trap_of type (cond b p q) ≡ true
there_if type true p q h k = h
there_if type false p q h k = k

interrupted_there : (windows : ℕ) (p : Processor) (level : ℕ) → is_at_trap_of (type_of (cause.Interrupt level)) (interrupted windows p level) ≡ true
unfolding interrupted
interrupted_there windows p level = there_if _ p.annul _ _ (entered_there windows p _ _ _) (entered_there windows p _ _ _)

trap_there : (windows : ℕ) (p : Processor) (t : Trap) → is_at_trap_of (type_of t) (with_trap windows p t) ≡ true
unfolding with_trap
trap_there windows p t = there_if _ p.registers.psr.et _ _ (entered_there windows p t _ _) refl

return_there : (windows : ℕ) (p : Processor) (t : Trap) → is_at_trap_of (type_of t) (with_return_trap windows p t) ≡ true
unfolding with_return_trap
return_there windows p t = there_if _ p.registers.psr.et _ _ (entered_there windows p t _ _) refl

trapped_there : (windows : ℕ) (p : Processor) (i : Instr) (t : Trap) → is_at_trap_of (type_of t) (trapped windows p i t) ≡ true
trapped_there windows p (row.Unimp imm22) t = trap_there windows p t
trapped_there windows p (row.Bicc condition annul disp22) t = trap_there windows p t
trapped_there windows p (row.Sethi imm22 rd) t = trap_there windows p t
trapped_there windows p (row.Call disp30) t = trap_there windows p t
trapped_there windows p (row.Arith op cc rd rs1 operand) t = trap_there windows p t
trapped_there windows p (row.Tagged op rd rs1 operand) t = trap_there windows p t
trapped_there windows p (row.Mulscc rd rs1 operand) t = trap_there windows p t
trapped_there windows p (row.Shift op rd rs1 count) t = trap_there windows p t
trapped_there windows p (row.ReadState register rd) t = trap_there windows p t
trapped_there windows p row.Stbar t = trap_there windows p t
trapped_there windows p (row.WriteState register rs1 operand) t = trap_there windows p t
trapped_there windows p (row.Jmpl rd rs1 operand) t = trap_there windows p t
trapped_there windows p (row.Rett rs1 operand) t = return_there windows p t
trapped_there windows p (row.Ticc condition rs1 operand) t = trap_there windows p t
trapped_there windows p (row.Flush rs1 operand) t = trap_there windows p t
trapped_there windows p (row.Save rd rs1 operand) t = trap_there windows p t
trapped_there windows p (row.Restore rd rs1 operand) t = trap_there windows p t
trapped_there windows p (row.Memory op rd rs1 operand) t = trap_there windows p t
trapped_there windows p (row.Alternate op rd rs1 rs2 asi) t = trap_there windows p t
trapped_there windows p (row.Fp word) t = trap_there windows p t
trapped_there windows p (row.Cp word) t = trap_there windows p t
trapped_there windows p row.AltImm t = trap_there windows p t
trapped_there windows p row.Illegal t = trap_there windows p t

-- ---- a step

-- where no trap is seen, none of a type is
none_of_type : (type : ℕ) (os : List Observation) → Each IsNoTrap os → Each (IsNoTrapOf type) os
none_of_type type [] h = tt
none_of_type type (seen.Fetch from word ∷ os) h = (tt, none_of_type type os h.1)
none_of_type type (seen.Access kind bytes va pa ∷ os) h = (tt, none_of_type type os h.1)
none_of_type type (seen.Trap t ∷ os) h = absurd h.0

-- where none of whatever type is seen, no trap is
none_of_any : (os : List Observation) → ((type : ℕ) → Each (IsNoTrapOf type) os) → Each IsNoTrap os
none_of_any [] h = tt
none_of_any (seen.Fetch from word ∷ os) h = (tt, none_of_any os (λ type. (h type).1))
none_of_any (seen.Access kind bytes va pa ∷ os) h = (tt, none_of_any os (λ type. (h type).1))
none_of_any (seen.Trap t ∷ os) h = absurd ((h t).0 refl)

module _ (type : ℕ) where
  -- no trap of the type is seen, or it led there
  record LeadsThere (a : Action Inner) : Type 0 where
    pub either : (o : Outside) → Each (IsNoTrapOf type) (observations a o) ⊎ (is_at_trap_of type (result_of a o).processor ≡ true)

  leads_done : (x : Inner) → LeadsThere (done x)
  leads_done x = record { either = λ o. inl tt }

  leads_trap : (seen_type : ℕ) (x : Inner) → is_at_trap_of seen_type x.processor ≡ true → LeadsThere (observe (seen.Trap seen_type) (done x))
  leads_trap seen_type x h = record { either = λ o. by_type (cases_eq type seen_type) }
    where
      by_type : (type ≡ seen_type) ⊎ (type ≢ seen_type) → Each (IsNoTrapOf type) (seen.Trap seen_type ∷ []) ⊎ (is_at_trap_of type x.processor ≡ true)
      by_type (inl e) = inr (ap (λ t. is_at_trap_of t x.processor) e ∙ h)
      by_type (inr other) = inl (other, tt)

  leads_if : (b : Bool) (x y : Action Inner) → LeadsThere x → LeadsThere y → LeadsThere (cond b x y)
  leads_if true x y p q = p
  leads_if false x y p q = q

  module _ {A : Type 0} (a : Action A) (f : A → Action Inner) (trapless : Trapless a) where
    leads_at : (o : Outside) → Each (IsNoTrapOf type) (observations (f (result_of a o)) (after a o)) ⊎ (is_at_trap_of type (result_of (f (result_of a o)) (after a o)).processor ≡ true)
        → Each (IsNoTrapOf type) (observations (a >>= f) o) ⊎ (is_at_trap_of type (result_of (a >>= f) o).processor ≡ true)
    leads_at o (inl none) =
        inl (subst (Each (IsNoTrapOf type)) (sym (observations-then a f o))
        (each_append (IsNoTrapOf type) (observations a o) (observations (f (result_of a o)) (after a o)) (none_of_type type (observations a o) (trapless.none o)) none))
    leads_at o (inr there) = inr (ap (λ (x : Inner). is_at_trap_of type x.processor) (result_of-then a f o) ∙ there)

    leads_then : ((x : A) → LeadsThere (f x)) → LeadsThere (a >>= f)
    leads_then h = record { either = λ o. leads_at o ((h (result_of a o)).either (after a o)) }

  module _ (windows limit : ℕ) where
    answer_leads : (r : Response) (m : Inner) (i : Instr) (u : Units) → LeadsThere (observed_trap r (done (finished_access windows m.processor i (record { response = r; units = u }))))
    answer_leads (Value value) m i u = leads_done _
    answer_leads (Refused t) m i u = leads_trap _ _ (trap_there windows m.processor t)

    executed_leads : (m : Inner) (i : Instr) (t : Option Trap) → LeadsThere (executed windows limit m i t)
    unfolding executed
    executed_leads m i (Some t) = leads_trap _ _ (trapped_there windows m.processor i t)
    executed_leads m i None = leads_then _ _ (access_trapless limit m.units (asked windows m.processor i)) (λ s. answer_leads s.response m i s.units)

    fetched_leads : (p : Processor) (r : Response) (u : Units) → LeadsThere (fetched windows limit p r u)
    fetched_leads p (Refused t) u = leads_trap _ _ (trap_there windows p t)
    fetched_leads p (Value value) u = executed_leads _ _ _

    instruction_leads : (m : Inner) → LeadsThere (instruction windows limit m)
    unfolding instruction
    instruction_leads m = leads_then _ _ (access_trapless limit m.units _) (λ s. fetched_leads m.processor s.response s.units)

    continued_leads : (m : Inner) → LeadsThere (continued windows limit m)
    unfolding continued
    continued_leads m = leads_if m.processor.annul _ _ (leads_done _) (instruction_leads m)

    requested_leads : (m : Inner) (word : ℕ) → LeadsThere (requested windows limit m word)
    unfolding requested
    requested_leads m word = leads_if (highest word == 0) _ _ (continued_leads m) (leads_trap _ _ (interrupted_there windows m.processor (highest word)))

    interruptible_leads : (m : Inner) → LeadsThere (interruptible windows limit m)
    unfolding interruptible
    interruptible_leads m =
        leads_if m.processor.registers.psr.et _ _ (leads_then _ _ (trapless_silent _ (record { none = λ o. refl })) (λ word. requested_leads m word)) (continued_leads m)

    action_leads : (m : Inner) → LeadsThere (action windows limit m)
    unfolding action awake
    action_leads m =
        leads_if m.processor.running _ _ (leads_then _ _ (trapless_silent _ (silent_tick m.units.timer)) (λ timer. interruptible_leads _)) (leads_done m)

none_seen : {A : Type 0} {b : Bool} → b ≡ false → A ⊎ (b ≡ true) → A
none_seen h (inl none) = none
none_seen h (inr there) = absurd (false≢true (sym h ∙ there))

-- a machine in error mode does nothing
pub trap_types_lead_there : TrapTypesLeadThere
unfolding run.step run.observed action
trap_types_lead_there type windows pages schedule n s h = by_case s.processor.running refl h
  where
    m : Inner
    m = inner_of (run.eventful schedule n s)

    o : Outside
    o = outside_of (run.eventful schedule n s).memory (arrived (n + 1) schedule)

    by_case : (runs : Bool) → s.processor.running ≡ runs → (runs && is_at_trap_of type (run.step windows pages schedule n s).processor) ≡ false
        → Each (IsNoTrapOf type) (run.observed windows pages schedule n s)
    by_case true e there = none_seen there ((action_leads type windows (ram_size pages) m).either o)
    by_case false e there = subst (λ b. Each (IsNoTrapOf type) (observations (cond b (awake windows (ram_size pages) m) (done m)) o)) (sym e) tt

-- a machine that is led nowhere by a trap is led nowhere by one of a type
pub nowhere_of : (type : ℕ) (runs : Bool) (p : Processor) → (runs && is_at_trap p) ≡ false → (runs && is_at_trap_of type p) ≡ false
nowhere_of type runs p h = narrower runs p.running (p.pc == p.registers.tbr) (trap_type_of p.registers.tbr == type % 2 ^ 8) h
  where
    narrower : (a b c d : Bool) → (a && (not b || c)) ≡ false → (a && (not b || (c && d))) ≡ false
    narrower true true false d h = refl
    narrower true true true d h = absurd (false≢true (sym h))
    narrower true false c d h = h
    narrower false b c d h = refl

pub traps_lead_there : TrapsLeadThere
traps_lead_there windows pages schedule n s h =
    none_of_any (run.observed windows pages schedule n s)
    (λ type. trap_types_lead_there type windows pages schedule n s (nowhere_of type s.processor.running (run.step windows pages schedule n s).processor h))
