-- What the calls that take no notes answer, and what they leave.
use Rattle.std.specs.Prelude.{ℕ, ◌+◌, ◌-◌, ◌==◌, true, List, [], ◌∷◌, drop, slice_set, Result, if◌then◌else◌}
use Rattle.sv8_model.specs.Action.{result_of}
use Rattle.sv8_model.specs.Levels.{timer_level}
use Rattle.sv8_phys.specs.declared.fault.BusError.{BusError}
use Rattle.sv8_model.specs.declared.size.Size.{Size}
use Rattle.sv8_phys.specs.Contents.{Contents, outside_of}
use Rattle.sv8_phys.specs.Devices.{load}

-- what a load leads to; it takes none of the bytes that wait, so these may be any
abbrev pub loaded : ℕ → Contents → Size → ℕ → Result ℕ BusError
loaded limit m size a = result_of (load limit m.timer size a) (outside_of m [])

-- the timer starts again from its reload, and level 10 is pending
abbrev pub expired : Contents → Contents
expired m = record m { timer = record m.timer { count = m.timer.reload }; pending = slice_set m.pending timer_level true }

-- the timer's count has fallen by one
abbrev pub counted_down : Contents → Contents
counted_down m = record m { timer = record m.timer { count = m.timer.count - 1 } }

-- a step of the timer: a count of 0 stays, and one that falls from 1 expires
unfoldable pub ticked : Contents → Contents
ticked m = if m.timer.count == 0 then m else (if m.timer.count == 1 then expired m else counted_down m)

-- of the bytes that have come in, those that wait
abbrev pub waiting_bytes : Contents → List ℕ → List ℕ
waiting_bytes m bytes = drop m.taken bytes

-- the oldest of some waiting bytes is taken, if there is one
abbrev pub after_take : Contents → List ℕ → Contents
after_take m [] = m
after_take m (b ∷ bs) = record m { taken = m.taken + 1 }
