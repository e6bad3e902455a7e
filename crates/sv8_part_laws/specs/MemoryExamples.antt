-- A small outside, for computed examples.
use Rattle.std.specs.Prelude.{ℕ, false, [], ◌∷◌, replicate}
use Rattle.sv8_model.specs.Outside.{Outside}
use Rattle.sv8_phys.specs.declared.timer.Timer.{Timer}

-- RAM of eight bytes; nothing waits, was put out or is pending
abbrev pub small : Outside
small = record { ram = 0x11 ∷ 0x22 ∷ 0x33 ∷ 0x44 ∷ 0x55 ∷ 0x66 ∷ 0x77 ∷ 0x88 ∷ []; waiting = []; output = []; pending = replicate 16 false }

-- a timer with a count and a reload
abbrev pub timer : ℕ → ℕ → Timer
timer count reload = record { count = count; reload = reload }
