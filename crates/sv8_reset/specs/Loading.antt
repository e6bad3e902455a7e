-- How a source gets into RAM: line by line, each byte that a line places.
use Rattle.std.specs.Prelude.{ℕ, ◌+◌, List, [], ◌∷◌, nat_lt, slice_set, if◌then◌else◌}
use Rattle.sv8_source.specs.Listing.{ListedLine}

-- a byte, where the address lies in RAM of that size
abbrev pub byte_placed : ℕ → ℕ → ℕ → List ℕ → List ℕ
byte_placed size at byte ram = if nat_lt at size then slice_set ram at byte else ram

-- bytes from an address on
abbrev pub bytes_placed : ℕ → ℕ → List ℕ → List ℕ → List ℕ
bytes_placed size at [] ram = ram
bytes_placed size at (b ∷ bs) ram = bytes_placed size (at + 1) bs (byte_placed size at b ram)

-- the bytes of lines
abbrev pub lines_placed : ℕ → List ListedLine → List ℕ → List ℕ
lines_placed size [] ram = ram
lines_placed size (l ∷ ls) ram = lines_placed size ls (bytes_placed size l.address l.bytes ram)
