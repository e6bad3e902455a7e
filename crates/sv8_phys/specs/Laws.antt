-- What the bits of a word of levels say, and the pieces of the output.
use Rattle.std.specs.Prelude.{◌≡◌, ℕ, Bool, false, List, length, slice_index_or, None}
use Rattle.sv8_model.specs.Words.{bit}
use Rattle.sv8_model.specs.Levels.{levels_word}
use Rattle.sv8_phys.specs.Pieces.{piece_of, pieces_below}

-- the word of pending levels has the bit of each level set exactly where that level is pending
abbrev pub BitsArePending : Type 0
BitsArePending = (pending : List Bool) (l : ℕ) → bit (levels_word pending) l ≡ slice_index_or pending l false

-- the pieces up to one that is not there, one after the other, are all the bytes; and there is one that is not there
pub record PiecesAreTheOutput : Type 0 where
  pub whole : (bytes : List ℕ) (index : ℕ) → piece_of bytes index ≡ None → pieces_below index bytes ≡ bytes
  pub ends : (bytes : List ℕ) → piece_of bytes (length bytes) ≡ None
