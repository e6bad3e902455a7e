-- How the registers of the current window stand together, apart from the rows of all windows.
use Rattle.std.specs.Prelude.{ℕ, ◌≡◌, ◌+◌, ◌*◌, ◌-◌, ◌%◌, ◌<◌, ◌≤◌, nat_lt, if◌then◌else◌, List, map, replicate, slice_index}
use Rattle.std.specs.List.{range_with_len}
use Rattle.sv8_regs.specs.Ring.{Registers, place}

-- which register of a window stands at place k of the ring: 8 to 31, and more where none does
abbrev pub register : ℕ → ℕ → ℕ → ℕ
register windows cwp k = (k + 16 * (windows - cwp)) % (16 * windows) + 8

-- the word at place k: of the current window where one of its registers stands there, else of the rows
abbrev pub word_at : ℕ → ℕ → List ℕ → List ℕ → ℕ → ℕ
word_at windows cwp current words k =
    let r = register windows cwp k in
    if nat_lt r 32 then slice_index current r else slice_index words k

-- the words of the rows, with the registers of the current window in their places: the ring
unfoldable pub ring_of : ℕ → ℕ → List ℕ → List ℕ → List ℕ
ring_of windows cwp current words = map (λ k. word_at windows cwp current words k) (range_with_len 0 (16 * windows))

-- the words of the rows are 0 in the places of the current window
unfoldable pub IsVacant : ℕ → ℕ → List ℕ → Type 0
IsVacant windows cwp words = (r : ℕ) → 8 ≤ r → r < 32 → slice_index words (place windows cwp r) ≡ 0

-- the registers outside the current window: the ring, with zeros in the places of that window
abbrev pub other_windows : ℕ → Registers → List ℕ
other_windows windows s = ring_of windows s.cwp (replicate 32 0) s.ring
