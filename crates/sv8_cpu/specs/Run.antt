-- Steps under a timeline, and runs of them.
use Rattle.std.specs.Prelude.{ℕ, zero, suc, ◌+◌, List}
use Rattle.sv8_model.specs.declared.touch.Touch.{Touch}
use Rattle.sv8_model.specs.declared.observation.Observation.{Observation}
use Rattle.sv8_model.specs.Action.{Action, result_of, after, touches, observations}
use Rattle.sv8_time.specs.Schedule.{Schedule, arrived}
use Rattle.sv8_phys.specs.Memory.{ram_size}
use Rattle.sv8_phys.specs.Contents.{outside_of}
use Rattle.sv8_cpu.specs.Step.{Inner, action}
use Rattle.sv8_memory.specs.Events.{with_events}
use Rattle.sv8_cpu.specs.State.{State, inner_of, left_by}

-- the state behind the events of step n
abbrev pub eventful : Schedule → ℕ → State → State
eventful schedule n s = record s { memory = with_events schedule n s.memory }

-- what a step does behind its events
abbrev pub step_action : ℕ → ℕ → State → Action Inner
step_action windows pages s = action windows (ram_size pages) (inner_of s)

-- the state that an action of a step leads to, once some bytes have come in
abbrev pub acted_on : List ℕ → State → Action Inner → State
acted_on bytes s a = left_by (result_of a (outside_of s.memory bytes)) s.memory (outside_of s.memory bytes) (after a (outside_of s.memory bytes))

-- step n: its events, and then what it does once the bytes of that step and of those before it have come in
unfoldable pub step : ℕ → ℕ → Schedule → ℕ → State → State
step windows pages schedule n s = acted_on (arrived (n + 1) schedule) (eventful schedule n s) (step_action windows pages (eventful schedule n s))

-- what a step touches of the outside behind its events
abbrev pub touched : ℕ → ℕ → List ℕ → State → List Touch
touched windows pages bytes s = touches (step_action windows pages s) (outside_of s.memory bytes)

-- what step n touches; its events are no part of that
unfoldable pub footprint : ℕ → ℕ → Schedule → ℕ → State → List Touch
footprint windows pages schedule n s = touched windows pages (arrived (n + 1) schedule) (eventful schedule n s)

-- what an observer sees of what a step does behind its events
abbrev pub seen : ℕ → ℕ → List ℕ → State → List Observation
seen windows pages bytes s = observations (step_action windows pages s) (outside_of s.memory bytes)

-- what an observer sees of step n
unfoldable pub observed : ℕ → ℕ → Schedule → ℕ → State → List Observation
observed windows pages schedule n s = seen windows pages (arrived (n + 1) schedule) (eventful schedule n s)

-- the state after n steps
unfoldable pub steps : ℕ → ℕ → Schedule → ℕ → State → State
steps windows pages schedule zero s = s
steps windows pages schedule (suc n) s = step windows pages schedule n (steps windows pages schedule n s)
