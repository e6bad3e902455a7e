-- What physical memory holds, and how it lies outside the processor.
use Rattle.std.specs.Prelude.{◌≡◌, ℕ, ◌<◌, Bool, false, List, [], length, drop, replicate, slice_index_or}
use Rattle.sv8_model.specs.Outside.{Outside}
use Rattle.sv8_phys.specs.declared.timer.Timer.{Timer}
use Rattle.sv8_phys.specs.Memory.{ram_size}
use Rattle.sv8_phys.specs.Pending.{AreLevels}

pub record Contents : Type 0 where
  -- the bytes of RAM, from physical address 0 on
  pub ram : List ℕ
  -- how many of the bytes that came in at the console have been taken
  pub taken : ℕ
  -- the bytes put out so far
  pub output : List ℕ
  -- whether each interrupt level is pending; level 0 is none
  pub pending : List Bool
  pub timer : Timer

-- zeros in RAM, nothing taken or put out, the timer at rest, and no level pending
abbrev pub empty_contents : ℕ → Contents
empty_contents pages = record { ram = replicate (ram_size pages) 0; taken = 0; output = []; pending = replicate 16 false; timer = record { count = 0; reload = 0 } }

-- the outside of the processor once these bytes have come in: of them wait all that have not been taken
abbrev pub outside_of : Contents → List ℕ → Outside
outside_of m bytes = record { ram = m.ram; waiting = drop m.taken bytes; output = m.output; pending = m.pending }

-- what every memory of so many pages has: its bytes are below 256, and its levels are 1 to 15
pub record AreContents (pages : ℕ) (m : Contents) : Type 0 where
  pub size : length m.ram ≡ ram_size pages
  pub bytes : (i : ℕ) → slice_index_or m.ram i 0 < 256
  pub levels : AreLevels m.pending
