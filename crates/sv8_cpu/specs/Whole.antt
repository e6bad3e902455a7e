-- What the parts of a machine stand for, and what it means that they did an action.
use Rattle.std.specs.Prelude.{ℕ, List}
use Rattle.sv8_model.specs.Action.{Action}
use Rattle.sv8_model.specs.Does.{Does, Noting}
use Rattle.sv8_phys.specs.Contents.{outside_of}
use Rattle.sv8_memory.specs.declared.feed.Feed.{Feed}
use Rattle.sv8_memory.specs.declared.physical.Physical.{Physical}
use Rattle.sv8_memory.specs.Feeding.{bytes_fed, IsFed}
use Rattle.sv8_trap.specs.Processor.{Processor}
use Rattle.sv8_cpu.specs.declared.parts.Parts.{Parts}
use Rattle.sv8_cpu.specs.Step.{Inner}
use Rattle.sv8_cpu.specs.State.{State}
use Rattle.sv8_memory.specs.View.{units_of}

-- what is not outside
abbrev pub inner_of_parts : {windows pages : ℕ} → Parts windows pages → Inner
inner_of_parts p = record { processor = p.processor; units = units_of p.memory }

-- the state of a processor over a memory
abbrev pub state_over : {pages : ℕ} → Processor → Physical pages → State
state_over p m = record { processor = p; mmu = m.mmu; memory = m.phys }

-- the whole state
abbrev pub state_of : {windows pages : ℕ} → Parts windows pages → State
state_of p = record { processor = p.processor; mmu = p.memory.mmu; memory = p.memory.phys }

-- once some bytes have come in, a machine p became p' as the action does, and what it touches and what is seen of it was noted behind the notes ns
abbrev pub MachineDoes : {windows pages : ℕ} → (way : Noting) → List ℕ → Action Inner → Parts windows pages → Parts windows pages → way.Taken → way.Taken → Type 0
MachineDoes way bytes a p p' ns ns' = Does way a (outside_of p.memory.phys bytes) (outside_of p'.memory.phys bytes) (inner_of_parts p') ns ns'

-- the machine did an action in a step whose input has come in, and has taken no more of it than there is
pub record Acts {windows pages : ℕ} (way : Noting) (feed : Feed) (a : Action Inner) (p p' : Parts windows pages) (ns ns' : way.Taken) : Type 0 where
  pub ok : MachineDoes way (bytes_fed feed) a p p' ns ns'
  pub fed : IsFed feed p'.memory.phys
