-- Steps of two machines with the same processor, made as one.
use Rattle.std.specs.Prelude.{◌≡◌, ◌≢◌, ℕ, ◌+◌, ◌-◌, Bool, true, false, List, []}
use Rattle.sv8_model.specs.Does.{DoesUnnoted}
use Rattle.sv8_time.specs.Schedule.{Schedule, arrived, pokes_of_step, requests_of_step}
use Rattle.sv8_phys.specs.Contents.{Contents, outside_of}
use Rattle.sv8_phys.specs.Memory.{ram_size}
use Rattle.sv8_model.specs.declared.size.Size.{Size}
use Rattle.sv8_phys.specs.declared.timer.Timer.{Timer}
use Rattle.sv8_trap.specs.Processor.{Processor}
use Rattle.sv8_trap.specs.declared.request.AccessRequest.TheVariants.{Load, Store}
use Rattle.sv8_memory.specs.Access.{access}
use Rattle.sv8_memory.specs.Units.{served}
use Rattle.sv8_memory.specs.View.{timed_units, units_of}
use Rattle.sv8_memory.specs.declared.physical.Physical.{Physical}
use Rattle.sv8_model.specs.Outside.{Outside}
use Rattle.sv8_cpu.specs.Step.{Inner, carried_out, continued, instruction}
use Rattle.sv8_cpu.specs.State.{State, inner_of}
use Rattle.sv8_cpu.specs.Run.{acted_on, step}
use Rattle.sv8_cpu.specs.Whole.{state_over}

-- a state with the processor of another one
abbrev pub lent : State → State → State
lent s t = record t { processor = s.processor }

-- the timer a step on, where that is no expiry: a count of 0 stays
abbrev pub counted_down : Contents → Contents
counted_down m = record m { timer = record m.timer { count = m.timer.count - 1 } }

abbrev pub timed : State → State
timed s = record s { memory = counted_down s.memory }

-- nothing stands in the timeline at step n that changes memory or the pending levels
abbrev pub IsQuiet : ℕ → Schedule → Type 0
IsQuiet n schedule = (pokes_of_step n schedule.pokes ≡ []) × (requests_of_step n schedule.requests ≡ [])

-- step n is a CALM one: the timer is a step on, and the processor goes on with the annulled slot or the instruction at PC
abbrev pub IsCalm : ℕ → ℕ → Schedule → ℕ → State → Type 0
IsCalm windows pages schedule n s =
    step windows pages schedule n s ≡ acted_on (arrived (n + 1) schedule) (timed s) (continued windows (ram_size pages) (inner_of (timed s)))

-- the fetch at PC gives a word, and changes nothing
abbrev pub IsFetched : ℕ → {pages : ℕ} → Processor → Physical pages → ℕ → Type 0
IsFetched windows {pages} p m word = (bytes : List ℕ) (y : Inner) (o : Outside)
    → DoesUnnoted (carried_out windows (ram_size pages) (inner_of (timed (state_over p m))) word) (outside_of m.phys bytes) o y
    → DoesUnnoted (instruction windows (ram_size pages) (inner_of (timed (state_over p m)))) (outside_of m.phys bytes) o y

-- the timer does not expire in the next step
abbrev pub CountsDown : {pages : ℕ} → Physical pages → Type 0
CountsDown m = m.phys.timer.count ≢ 1

-- a load gives a value once some bytes have come in, and changes nothing
abbrev pub IsLoaded : {pages : ℕ} → Size → ℕ → ℕ → List ℕ → Physical pages → ℕ → Type 0
IsLoaded {pages} size asi at bytes m value =
    (timer : Timer) → DoesUnnoted (access (ram_size pages) (timed_units m timer) (Load size asi at)) (outside_of m.phys bytes) (outside_of m.phys bytes) (served (timed_units m timer) value)

-- a store was made, which raised no trap, in a memory whose timer is a step on
pub record IsStored {pages : ℕ} (size : Size) (asi at value : ℕ) (m m' : Physical pages) : Type 0 where
  pub done : (bytes : List ℕ) → DoesUnnoted (access (ram_size pages) (timed_units m (counted_down m.phys).timer) (Store size asi at value))
      (outside_of m.phys bytes) (outside_of m'.phys bytes) (served (units_of m') 0)
  pub taken : m'.phys.taken ≡ m.phys.taken
  pub mmu : m'.mmu ≡ m.mmu

-- a word was carried out once some bytes had come in, which made of a processor and a memory whose timer is a step on others
pub record IsCarriedOut (windows : ℕ) {pages : ℕ} (bytes : List ℕ) (word : ℕ) (p : Processor) (m : Physical pages) (q : Processor) (m' : Physical pages) : Type 0 where
  pub done : DoesUnnoted (carried_out windows (ram_size pages) (inner_of (timed (state_over p m))) word)
      (outside_of m.phys bytes) (outside_of m'.phys bytes) (inner_of (state_over q m'))
  pub taken : m'.phys.taken ≡ m.phys.taken
  pub mmu : m'.mmu ≡ m.mmu

-- .. or nothing was done
abbrev pub MayBeCarriedOut : ℕ → {pages : ℕ} → List ℕ → ℕ → Processor → Physical pages → Processor → Physical pages → Bool → Type 0
MayBeCarriedOut windows bytes word p m q m' true = IsCarriedOut windows bytes word p m q m'
MayBeCarriedOut windows bytes word p m q m' false = (q ≡ p) × (m' ≡ m)

-- .. whichever bytes had come in
abbrev pub MayAlwaysBeCarriedOut : ℕ → {pages : ℕ} → ℕ → Processor → Physical pages → Processor → Physical pages → Bool → Type 0
MayAlwaysBeCarriedOut windows word p m q m' true = (bytes : List ℕ) → IsCarriedOut windows bytes word p m q m'
MayAlwaysBeCarriedOut windows word p m q m' false = (q ≡ p) × (m' ≡ m)

-- a calm step n, in which no slot is annulled, made of a processor and a memory others, or nothing was done
abbrev pub MayBeMade : ℕ → {pages : ℕ} → ℕ → Schedule → Processor → Physical pages → Processor → Physical pages → Bool → Type 0
MayBeMade windows {pages} n schedule p m q m' true =
    (m'.mmu ≡ m.mmu) × (IsCalm windows pages schedule n (state_over p m) → p.annul ≡ false → state_over q m' ≡ step windows pages schedule n (state_over p m))
MayBeMade windows n schedule p m q m' false = (q ≡ p) × (m' ≡ m)
