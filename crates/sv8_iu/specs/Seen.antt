-- What an observer sees of traps.
use Rattle.std.specs.Prelude.{List, [], ◌∷◌, Option, Some, None}
use Rattle.sv8_model.specs.declared.observation.Observation.{Observation}
use Rattle.sv8_model.specs.declared.observation.Observation.TheVariants as seen
use Rattle.sv8_trap.specs.declared.table.Trap.{Trap}
use Rattle.sv8_trap.specs.Table.{row_of}

-- the type of a trap
abbrev pub trap_seen : Trap → Observation
trap_seen t = seen.Trap (row_of t).trap_type

-- of the trap that an instruction takes, if it takes one
abbrev pub taken_seen : Option Trap → List Observation
taken_seen None = []
taken_seen (Some t) = trap_seen t ∷ []
