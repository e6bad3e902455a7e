-- The end of the output.
use Rattle.std.specs.Prelude.{◌≡◌, ℕ, ◌+◌, ◌*◌, ◌<◌, List, length}
use Rattle.sv8_phys.specs.declared.output.OutputPlace.{OutputPlace}

-- the next byte will stand there
pub record IsEnd (bytes : List ℕ) (p : OutputPlace) : Type 0 where
  pub all : 512 * p.piece + p.place ≡ length bytes
  pub inside : p.place < 512
