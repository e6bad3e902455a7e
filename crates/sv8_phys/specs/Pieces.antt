-- The bytes that were put out, in pieces of 512.
use Rattle.std.specs.Prelude.{ℕ, zero, suc, ◌*◌, List, [], ◌++◌, length, take, drop, nat_lt, Option, Some, None, if◌then◌else◌}

-- the bytes from 512 * index on, at most 512 of them, where there are any
unfoldable pub piece_of : List ℕ → ℕ → Option (List ℕ)
piece_of bytes index = if nat_lt (512 * index) (length bytes) then Some (take 512 (drop (512 * index) bytes)) else None

-- the bytes of a piece, none where it is not there
abbrev pub bytes_of_piece : Option (List ℕ) → List ℕ
bytes_of_piece None = []
bytes_of_piece (Some piece) = piece

-- the pieces below an index, one after the other
abbrev pub pieces_below : ℕ → List ℕ → List ℕ
pieces_below zero bytes = []
pieces_below (suc index) bytes = pieces_below index bytes ++ bytes_of_piece (piece_of bytes index)
