-- An ordinary step, and what is carried out in it over two memories.
use Rattle.std.proofs.Common.{drop, length, subst, ◌≡◌, ◌≢◌, ◌∙◌, ◌⊎◌, inl, inr, ◌+◌, ◌-◌, ◌==◌, ℕ, zero, suc, Bool, true, false, None, Some, List, [], refl, sym, ap, arith}
use Rattle.std.proofs.lemmas.Bool.Decides.{nat_tests}
use Rattle.sv8_isa.specs.declared.instr.Instr.{Instr}
use Rattle.sv8_isa.specs.declared.instr.Instr.TheVariants.{Memory}
use Rattle.sv8_isa.specs.declared.instr.MemoryOp.{MemoryOp}
use Rattle.sv8_isa.specs.declared.instr.Operand.{Operand}
use Rattle.sv8_isa.specs.Table.{meaning}
use Rattle.sv8_model.specs.Action.{done, result_of, after}
use Rattle.sv8_model.proofs.Common.{does_if_true, does_if_false}
use Rattle.sv8_model.specs.Does.{DoesUnnoted, keeping, no_notes}
use Rattle.sv8_model.specs.Outside.{Outside}
use Rattle.sv8_model.specs.Levels.{asked}
use Rattle.sv8_time.specs.Schedule.{Schedule, arrived}
use Rattle.sv8_time.specs.Schedule.{pokes_of_step, requests_of_step}
use Rattle.sv8_phys.specs.declared.timer.Timer.{Timer}
use Rattle.sv8_model.specs.declared.size.Size.{Size}
use Rattle.sv8_phys.specs.Devices.{tick}
use Rattle.sv8_phys.specs.Memory.{ram_size}
use Rattle.sv8_phys.specs.Contents.{Contents, outside_of}
use Rattle.sv8_mmu.specs.declared.registers.Mmu.{Mmu}
use Rattle.sv8_trap.specs.declared.table.Trap.{Trap}
use Rattle.sv8_trap.specs.Table.{taken}
use Rattle.sv8_trap.specs.Processor.{Processor, slot_skipped, with_result}
use Rattle.sv8_trap.specs.Interrupt.{unmasked}
use Rattle.sv8_trap.specs.declared.request.AccessRequest.TheVariants.{Fetch, Load, Store}
use Rattle.sv8_trap.specs.declared.request.Response.{Response}
use Rattle.sv8_trap.specs.declared.request.Response.TheVariants.{Value}
use Rattle.sv8_trap.specs.declared.request.AccessRequest.{AccessRequest}
use Rattle.sv8_iu.specs.Operands.{sum_of_sources}
use Rattle.sv8_iu.specs.Instruction.{raised, trapped, complete, data_space, IsUnaided}
use Rattle.sv8_iu.specs.Instruction as iu
use Rattle.sv8_iu.specs.Memory.{access_of, memory_traps, transferred_data}
use Rattle.sv8_model.specs.Words.{low_word}
use Rattle.sv8_memory.specs.declared.physical.Physical.{Physical}
use Rattle.sv8_memory.specs.Units.{Served, served}
use Rattle.sv8_memory.specs.Access.{access}
use Rattle.sv8_memory.proofs.Poking.{quiet}
use Rattle.sv8_cpu.specs.Step.{Inner, carried_out, executed, continued, requested, interruptible, action}
use Rattle.sv8_cpu.specs.State.{State, inner_of, left_by}
use Rattle.sv8_cpu.specs.Run.{step, acted_on}
use Rattle.sv8_cpu.proofs.Steps.{trap_taken, carried_out_by, carried_out_unaided, instruction_by, interruptible_by, awake_by}
use Rattle.sv8_memory.specs.View.{IsTaken, timed_units, units_of}
use Rattle.sv8_cpu.specs.Whole.{state_over}
use Rattle.sv8_walks.specs.Lockstep.{counted_down, timed, CountsDown, IsCarriedOut, IsLoaded, IsStored, MayBeCarriedOut, MayBeMade, IsCalm, IsFetched}

-- ---- the timer

-- a timer that does not expire
falls : (count reload : ℕ) → count ≢ 1 → tick (record { count = count; reload = reload }) ≡ done (record { count = count - 1; reload = reload })
unfolding tick
falls zero reload h = refl
falls (suc count) reload h =
    let some : (suc count == 0) ≡ false = grind (arith, nat_tests) in
    let others : (suc count == 1) ≡ false = grind (arith, nat_tests, h) in
    rw some (rw others refl)

contents_are : (m : Contents) (ram : List ℕ) (taken : ℕ) (output : List ℕ) (pending : List Bool) (timer : Timer) → m.ram ≡ ram → m.taken ≡ taken → m.output ≡ output
    → m.pending ≡ pending → m.timer ≡ timer → m ≡ record { ram = ram; taken = taken; output = output; pending = pending; timer = timer }
contents_are m ram taken output pending timer a b c d e =
    ap {A = List ℕ} {B = Contents} (λ x. record m { ram = x }) a ∙ ap {A = ℕ} {B = Contents} (λ x. record m { ram = ram; taken = x }) b
    ∙ ap {A = List ℕ} {B = Contents} (λ x. record m { ram = ram; taken = taken; output = x }) c
    ∙ ap {A = List Bool} {B = Contents} (λ x. record m { ram = ram; taken = taken; output = output; pending = x }) d
    ∙ ap {A = Timer} {B = Contents} (λ x. record { ram = ram; taken = taken; output = output; pending = pending; timer = x }) e

counts : (m n : Contents) → m.timer.count ≢ 1 → DoesUnnoted (tick m.timer) (outside_of m []) (outside_of n []) n.timer → n.taken ≡ m.taken → n ≡ counted_down m
counts m n h d same =
    let is = falls m.timer.count m.timer.reload h in
    let result = d.result ∙ ap (λ a. result_of a (outside_of m [])) is in
    let outside = d.outside ∙ ap (λ a. after a (outside_of m [])) is in
    contents_are n _ _ _ _ _ (ap (λ (o : Outside). o.ram) outside) same (ap (λ (o : Outside). o.output) outside) (ap (λ (o : Outside). o.pending) outside) result

pub memory_counts : {pages : ℕ} (m n : Physical pages) → CountsDown m → ((bytes : List ℕ) → DoesUnnoted (tick m.phys.timer) (outside_of m.phys bytes) (outside_of n.phys bytes) n.phys.timer)
    → n.phys.taken ≡ m.phys.taken → n.mmu ≡ m.mmu → n ≡ record m { phys = counted_down m.phys }
memory_counts {pages} m n h d same mmu =
    ap {A = Contents} {B = Physical pages} (λ x. record n { phys = x }) (counts m.phys n.phys h (d []) same) ∙ ap {A = Mmu} {B = Physical pages} (λ x. record { phys = counted_down m.phys; mmu = x }) mmu

-- ---- an ordinary step

module _ (windows limit : ℕ) (m : Inner) (o : Outside) where
  -- no interrupt is taken
  uninterrupted : (et : Bool) (y : Inner) (o1 : Outside) → m.processor.registers.psr.et ≡ et
      → (m.processor.registers.psr.et ≡ true → asked (unmasked m.processor.registers.psr.pil) o.pending ≡ 0)
      → DoesUnnoted (continued windows limit m) o o1 y → DoesUnnoted (interruptible windows limit m) o o1 y
  unfolding interruptible requested
  uninterrupted true y o1 on unasked d =
      interruptible_by (keeping false false) windows limit m o o o1 no_notes no_notes no_notes y (unmasked m.processor.registers.psr.pil) 0 on refl
      (record { result = sym (unasked on); outside = refl; noted = refl }) d
  uninterrupted false y o1 off unasked d = does_if_false (keeping false false) m.processor.registers.psr.et _ _ o o1 y no_notes no_notes off d

module _ (windows pages : ℕ) (schedule : Schedule) (n : ℕ) (p : Processor) (m : Physical pages) where
  -- no event, expiry or interrupt
  pub calm : pokes_of_step n schedule.pokes ≡ [] → requests_of_step n schedule.requests ≡ [] → p.running ≡ true → CountsDown m
      → (p.registers.psr.et ≡ true → asked (unmasked p.registers.psr.pil) m.phys.pending ≡ 0) → IsCalm windows pages schedule n (state_over p m)
  unfolding step action
  calm pokes requests runs counting unasked =
      let bytes = arrived (n + 1) schedule in
      let limit = ram_size pages in
      let o = outside_of m.phys bytes in
      let now = inner_of (timed (state_over p m)) in
      let a = continued windows limit now in
      let y = result_of a o in
      let o1 = after a o in
      let made : DoesUnnoted a o o1 y = record { result = refl; outside = refl; noted = refl } in
      let timer : DoesUnnoted (tick m.phys.timer) o o now.units.timer =
      rw (falls m.phys.timer.count m.phys.timer.reload counting) (record { result = refl; outside = refl; noted = refl }) in
      let awake = awake_by (keeping false false) windows limit (inner_of (state_over p m)) o o o1 no_notes no_notes no_notes y now.units.timer now refl timer
      (uninterrupted windows limit now o p.registers.psr.et y o1 refl unasked made) in
      let all = does_if_true (keeping false false) p.running _ _ o o1 y no_notes no_notes runs awake in
      rw (sym (quiet schedule n m.phys pokes requests))
      (ap (λ z. left_by z m.phys o (after (action windows limit (inner_of (state_over p m))) o)) (sym all.result) ∙ ap (λ w. left_by y m.phys o w) (sym all.outside))

  -- no event, and the machine is in error mode
  pub stopped : pokes_of_step n schedule.pokes ≡ [] → requests_of_step n schedule.requests ≡ [] → p.running ≡ false → state_over p m ≡ step windows pages schedule n (state_over p m)
  unfolding step action
  stopped pokes requests stops =
      let bytes = arrived (n + 1) schedule in
      let limit = ram_size pages in
      let o = outside_of m.phys bytes in
      let y = inner_of (state_over p m) in
      let all : DoesUnnoted (action windows limit y) o o y = does_if_false (keeping false false) p.running _ _ o o y no_notes no_notes stops (record { result = refl; outside = refl; noted = refl }) in
      let same : m.phys.taken ≡ m.phys.taken + (length o.waiting - length o.waiting) = omega arith in
      rw (sym (quiet schedule n m.phys pokes requests))
      (ap {A = ℕ} {B = State} (λ t. record { processor = p; mmu = m.mmu; memory = record m.phys { taken = t } }) same
      ∙ ap (λ z. left_by z m.phys o o) all.result ∙ ap (λ w. left_by (result_of (action windows limit y) o) m.phys o w) all.outside)

  -- .. and no slot is annulled
  pub ordinary : (word : ℕ) → IsCalm windows pages schedule n (state_over p m) → p.annul ≡ false → IsFetched windows p m word
      → step windows pages schedule n (state_over p m)
      ≡ acted_on (arrived (n + 1) schedule) (timed (state_over p m)) (carried_out windows (ram_size pages) (inner_of (timed (state_over p m))) word)
  unfolding continued
  ordinary word is unannulled fetched =
      let bytes = arrived (n + 1) schedule in
      let limit = ram_size pages in
      let o = outside_of m.phys bytes in
      let now = inner_of (timed (state_over p m)) in
      let a = carried_out windows limit now word in
      let y = result_of a o in
      let o1 = after a o in
      let all : DoesUnnoted (continued windows limit now) o o1 y =
      does_if_false (keeping false false) p.annul _ _ o o1 y no_notes no_notes unannulled (fetched bytes y o1 (record { result = refl; outside = refl; noted = refl })) in
      is ∙ ap (λ z. left_by z m.phys o (after (continued windows limit now) o)) (sym all.result) ∙ ap (λ w. left_by y m.phys o w) (sym all.outside)

  -- .. or one is
  pub skipped : IsCalm windows pages schedule n (state_over p m) → p.annul ≡ true
      → state_over (slot_skipped p) (record m { phys = counted_down m.phys }) ≡ step windows pages schedule n (state_over p m)
  unfolding continued
  skipped is annulled =
      let bytes = arrived (n + 1) schedule in
      let limit = ram_size pages in
      let o = outside_of m.phys bytes in
      let now = inner_of (timed (state_over p m)) in
      let y : Inner = record { processor = slot_skipped p; units = now.units } in
      let all : DoesUnnoted (continued windows limit now) o o y =
      does_if_true (keeping false false) p.annul _ _ o o y no_notes no_notes annulled (record { result = refl; outside = refl; noted = refl }) in
      let same : m.phys.taken ≡ m.phys.taken + (length o.waiting - length o.waiting) = omega arith in
      ap {A = ℕ} {B = State} (λ t. record { processor = slot_skipped p; mmu = m.mmu; memory = record (counted_down m.phys) { taken = t } }) same
      ∙ ap (λ z. left_by z m.phys o o) all.result ∙ ap (λ w. left_by (result_of (continued windows limit now) o) m.phys o w) all.outside ∙ sym is

-- a fetch that is known at once
pub fetched_word : (windows : ℕ) {pages : ℕ} (p : Processor) (m : Physical pages) (value word : ℕ)
    → ((timer : Timer) (bytes : List ℕ) → DoesUnnoted (access (ram_size pages) (timed_units m timer) (Fetch p.registers.psr.s p.pc)) (outside_of m.phys bytes) (outside_of m.phys bytes)
    (served (timed_units m timer) value))
    → word ≡ low_word value → IsFetched windows p m word
fetched_word windows {pages} p m value word fetched is = λ bytes y o1 made.
    instruction_by (keeping false false) windows (ram_size pages) (inner_of (timed (state_over p m))) (outside_of m.phys bytes) (outside_of m.phys bytes) o1 no_notes no_notes no_notes y
    (Fetch p.registers.psr.s p.pc) (served (inner_of (timed (state_over p m))).units value) refl (fetched (inner_of (timed (state_over p m))).units.timer bytes)
    (rw (← is) made)

-- ---- a store

-- it is known at once to be answered
pub stored_at_once : {pages : ℕ} (size : Size) (asi at value : ℕ) (m m' : Physical pages) (r : Response)
    → ((value : ℕ) (timer : Timer) (bytes : List ℕ) → IsTaken m.mmu (result_of (access (ram_size pages) (timed_units m timer) (Store size asi at value)) (outside_of m.phys bytes)))
    → ((bytes : List ℕ) → DoesUnnoted (access (ram_size pages) (timed_units m (counted_down m.phys).timer) (Store size asi at value)) (outside_of m.phys bytes) (outside_of m'.phys bytes)
    (record { response = r; units = units_of m' }))
    → m'.phys.taken ≡ m.phys.taken → IsStored size asi at value m m'
stored_at_once {pages} size asi at value m m' r known d same =
    let timer = (counted_down m.phys).timer in
    let answer : (bytes : List ℕ) → r ≡ Value 0 = λ bytes. ap (λ (s : Served). s.response) (d bytes).result ∙ (known value timer bytes).0 in
    record {
      done = λ bytes. record {
        result = ap (λ x. record { response = x; units = units_of m' }) (sym (answer bytes)) ∙ (d bytes).result;
        outside = (d bytes).outside;
        noted = (d bytes).noted;
      };
      taken = same;
      mmu = ap (λ (s : Served). s.units.mmu) (d []).result ∙ (known value timer []).1;
    }

-- ---- what is carried out

module _ (windows : ℕ) {pages : ℕ} (bytes : List ℕ) (word : ℕ) (p q : Processor) (m : Physical pages) where
  abbrev later : Physical pages
  later = record m { phys = counted_down m.phys }

  -- an instruction that makes no access
  pub unaided_carried_out : (m' : Physical pages) → IsUnaided windows p (meaning word) q → m' ≡ record m { phys = counted_down m.phys } → IsCarriedOut windows bytes word p m q m'
  unaided_carried_out m' unaided is = rw is (record {
    done = carried_out_unaided (keeping false false) windows (ram_size pages) (inner_of (timed (state_over p m))) (outside_of m.phys bytes) no_notes no_notes word q (inner_of (state_over q later)) unaided refl refl;
    taken = refl;
    mmu = refl;
  })

  -- an instruction that raises a trap
  pub trap_carried_out : (m' : Physical pages) (i : Instr) (t : Trap) → i ≡ meaning word → taken (raised windows p i) ≡ Some t → q ≡ trapped windows p i t
      → m' ≡ record m { phys = counted_down m.phys } → IsCarriedOut windows bytes word p m q m'
  trap_carried_out m' i t word_is raises is next = rw next (record {
    done =
        let o = outside_of m.phys bytes in
        let now = inner_of (timed (state_over p m)) in
        let y = inner_of (state_over q later) in
        subst (λ j. DoesUnnoted (executed windows (ram_size pages) now j (taken (raised windows p j))) o o y) word_is
        (trap_taken (keeping false false) windows (ram_size pages) now o no_notes no_notes i (taken (raised windows p i)) t y raises refl (rw is refl));
    taken = refl;
    mmu = refl;
  })

  module _ (i : Instr) (value : ℕ) (word_is : i ≡ meaning word) (untrapped : taken (raised windows p i) ≡ None) (is : q ≡ complete windows p i value) where
    -- an access that is answered with a value
    answers : (o o1 : Outside) (a : AccessRequest) (m' : Physical pages) → a ≡ iu.asked windows p i
        → DoesUnnoted (access (ram_size pages) (units_of later) a) o o1 (record { response = Value value; units = units_of m' })
        → DoesUnnoted (carried_out windows (ram_size pages) (inner_of (timed (state_over p m))) word) o o1 (inner_of (state_over q m'))
    answers o o1 a m' asks d =
        carried_out_by (keeping false false) windows (ram_size pages) (inner_of (timed (state_over p m))) o o1 no_notes no_notes no_notes word i a
        (record { response = Value value; units = units_of m' }) (inner_of (state_over q m')) word_is untrapped asks d refl (rw is refl)

    module _ (size : Size) (asi at : ℕ) where
      -- a load that is known at once
      pub loads : (m' : Physical pages) → Load size asi at ≡ iu.asked windows p i
          → IsLoaded size asi at bytes m value → m' ≡ record m { phys = counted_down m.phys } → IsCarriedOut windows bytes word p m q m'
      loads m' asks loaded next = rw next (record {
        done = answers (outside_of m.phys bytes) (outside_of m.phys bytes) (Load size asi at) later asks (loaded later.phys.timer);
        taken = refl;
        mmu = refl;
      })

      -- a store that is known at once to be answered
      pub stores : (m' : Physical pages) (stored : ℕ) → Store size asi at stored ≡ iu.asked windows p i → value ≡ 0 → IsStored size asi at stored m m' → IsCarriedOut windows bytes word p m q m'
      stores m' stored asks none made = record {
        done = answers (outside_of m.phys bytes) (outside_of m'.phys bytes) (Store size asi at stored) m' asks (rw none (made.done bytes));
        taken = made.taken;
        mmu = made.mmu;
      }

  -- the same of a load or a store of a word or a byte
  module _ (op : MemoryOp) (size : Size) (rd rs1 : ℕ) (operand : Operand) (at value : ℕ) (word_is : Memory op rd rs1 operand ≡ meaning word) (place : at ≡ sum_of_sources windows p rs1 operand)
      (untrapped : taken (memory_traps op rd at) ≡ None) (is : q ≡ transferred_data windows p op rd value) where
    pub load_carried_out : (m' : Physical pages) → access_of windows p op (data_space p) rd at ≡ Load size (data_space p) at
        → IsLoaded size (data_space p) at bytes m value → m' ≡ record m { phys = counted_down m.phys } → IsCarriedOut windows bytes word p m q m'
    load_carried_out m' asks = loads (Memory op rd rs1 operand) value word_is (rw (← place) untrapped) is size (data_space p) at m' (rw (← place) (sym asks))

    pub store_carried_out : (m' : Physical pages) (stored : ℕ) → access_of windows p op (data_space p) rd at ≡ Store size (data_space p) at stored → value ≡ 0
        → IsStored size (data_space p) at stored m m' → IsCarriedOut windows bytes word p m q m'
    store_carried_out m' stored asks = stores (Memory op rd rs1 operand) value word_is (rw (← place) untrapped) is size (data_space p) at m' stored (rw (← place) (sym asks))

-- the state that it leads to
pub carried : (windows : ℕ) {pages : ℕ} (bytes : List ℕ) (word : ℕ) (p q : Processor) (m m' : Physical pages) → IsCarriedOut windows bytes word p m q m'
    → state_over q m' ≡ acted_on bytes (timed (state_over p m)) (carried_out windows (ram_size pages) (inner_of (timed (state_over p m))) word)
carried windows {pages} bytes word p q m m' made =
    let o = outside_of m.phys bytes in
    let o1 = outside_of m'.phys bytes in
    let a = carried_out windows (ram_size pages) (inner_of (timed (state_over p m))) word in
    let d = made.done in
    let same : m'.phys.taken ≡ m.phys.taken + (length (drop m.phys.taken bytes) - length (drop m'.phys.taken bytes)) =
    subst (λ t. t ≡ m.phys.taken + (length (drop m.phys.taken bytes) - length (drop t bytes))) (sym made.taken) (omega arith) in
    ap {A = ℕ} {B = State} (λ t. record { processor = q; mmu = m'.mmu; memory = record m'.phys { taken = t } }) same
    ∙ ap (λ z. left_by z m.phys o o1) d.result ∙ ap (λ w. left_by (result_of a o) m.phys o w) d.outside

-- a step in which it is carried out, or not
pub made_or_not : (windows pages : ℕ) (schedule : Schedule) (n word : ℕ) (bytes : List ℕ) (p q : Processor) (m m' : Physical pages) (made : Bool) → bytes ≡ arrived (n + 1) schedule
    → IsFetched windows p m word → MayBeCarriedOut windows bytes word p m q m' made → MayBeMade windows n schedule p m q m' made
made_or_not windows pages schedule n word bytes p q m m' true next fetched d =
    (d.mmu, λ calm unannulled. carried windows (arrived (n + 1) schedule) word p q m m' (rw (← next) d) ∙ sym (ordinary windows pages schedule n p m word calm unannulled fetched))
made_or_not windows pages schedule n word bytes p q m m' false next fetched d = d

-- ---- the register that a load leaves

-- both values leave the same, which %g0 always is
pub left_the_same : (windows rd a b : ℕ) (op : MemoryOp) (p : Processor) → ((value : ℕ) → transferred_data windows p op rd value ≡ with_result windows p rd (low_word value)) → (rd ≡ 0) ⊎ (a ≡ b)
    → transferred_data windows p op rd a ≡ transferred_data windows p op rd b
unfolding with_result
left_the_same windows rd a b op p low (inl none) = low a ∙ rw none refl ∙ sym (low b)
left_the_same windows rd a b op p low (inr same) = ap (transferred_data windows p op rd) same
