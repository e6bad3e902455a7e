-- The cells of a state: what was put in one stands there, and nothing else has changed.
use Rattle.std.proofs.Common.{◌≡◌, ℕ, true, false, List, [], refl, sym, ◌∙◌, ap, arith}
use Rattle.std.proofs.lemmas.Bool.{true≢false}
use Rattle.std.proofs.lemmas.Bool.Decides.{nat_tests}
use Rattle.sv8_model.specs.Cells as cells
use Rattle.sv8_model.specs.Cells.{Cell, ram_byte, waiting_bytes, pending_level, Value, same_cell, Fits}
use Rattle.sv8_model.specs.Frame as frame
use Rattle.sv8_model.proofs.Common.{cells_hold}
use Rattle.sv8_phys.specs.Contents.{Contents, AreContents, outside_of}
use Rattle.sv8_cpu.specs.State.{State}
use Rattle.sv8_cpu.specs.Recorded.{cells_of, with_cells, get, put, IsSound, Holds, Has}

pub same_is : (c d : Cell) → same_cell c d ≡ true → c ≡ d
same_is (ram_byte i) (ram_byte j) e = ap ram_byte (grind (arith, nat_tests, e))
same_is (ram_byte i) waiting_bytes e = absurd (true≢false (sym e))
same_is (ram_byte i) (pending_level l) e = absurd (true≢false (sym e))
same_is waiting_bytes (ram_byte j) e = absurd (true≢false (sym e))
same_is waiting_bytes waiting_bytes e = refl
same_is waiting_bytes (pending_level l) e = absurd (true≢false (sym e))
same_is (pending_level k) (ram_byte j) e = absurd (true≢false (sym e))
same_is (pending_level k) waiting_bytes e = absurd (true≢false (sym e))
same_is (pending_level k) (pending_level l) e = ap pending_level (grind (arith, nat_tests, e))

-- the outside of a sound memory is sound, whatever bytes wait
pub sound_outside : (pages : ℕ) (m : Contents) (bytes : List ℕ) → AreContents pages m → frame.IsSound (outside_of m bytes)
sound_outside pages m bytes h = record { bytes = h.bytes; count = h.levels.count; none_at_zero = h.levels.none_at_zero }

-- a cell of a state is one of its outside, whatever bytes wait
pub has_outside : (c : Cell) (s : State) (bytes : List ℕ) → Holds c s → cells.Has c (outside_of s.memory bytes)
has_outside (ram_byte i) s bytes h = h
has_outside waiting_bytes s bytes h = absurd h
has_outside (pending_level l) s bytes h = h

pub put-get : (c : Cell) (s : State) → put c (get c s) s ≡ s
put-get c s = ap (with_cells s) (cells_hold.unchanged c (cells_of s))

pub put-put : (c : Cell) (v w : Value) (s : State) → put c v (put c w s) ≡ put c v s
put-put (ram_byte i) v w s = ap (with_cells s) (cells_hold.last (ram_byte i) w v (cells_of s))
put-put waiting_bytes v w s = refl
put-put (pending_level l) v w s = ap (with_cells s) (cells_hold.last (pending_level l) w v (cells_of s))

pub get-put : (c : Cell) (v : Value) (s : State) → Holds c s → Fits c v → get c (put c v s) ≡ v
get-put (ram_byte i) v s has fits = cells_hold.got (ram_byte i) v (cells_of s) has fits
get-put waiting_bytes v s has fits = absurd has
get-put (pending_level l) v s has fits = cells_hold.got (pending_level l) v (cells_of s) has fits

pub get-put_other : (c d : Cell) (v : Value) (s : State) → same_cell c d ≡ false → get d (put c v s) ≡ get d s
get-put_other (ram_byte i) d v s n = cells_hold.others (ram_byte i) d v (cells_of s) n
get-put_other waiting_bytes d v s n = refl
get-put_other (pending_level l) d v s n = cells_hold.others (pending_level l) d v (cells_of s) n

pub get_fits : (pages : ℕ) (c : Cell) (s : State) → IsSound pages s → Fits c (get c s)
get_fits pages c s sound = cells_hold.fits c (cells_of s) (sound_outside pages s.memory [] sound)

-- something is put in a cell, and the state stays sound and keeps its cells
sound_put : (pages : ℕ) (c : Cell) (v : Value) (s : State) → IsSound pages s → Holds c s → Fits c v → IsSound pages (put c v s)
sound_put pages (ram_byte i) v s sound has fits =
    let there = cells_hold.sound (ram_byte i) v (cells_of s) (sound_outside pages s.memory [] sound) has fits in
    record { size = sym (cells_hold.alike (ram_byte i) v (cells_of s)).size ∙ sound.size; bytes = there.bytes; levels = sound.levels }
sound_put pages waiting_bytes v s sound has fits = absurd has
sound_put pages (pending_level l) v s sound has fits =
    let there = cells_hold.sound (pending_level l) v (cells_of s) (sound_outside pages s.memory [] sound) has fits in
    record { size = sound.size; bytes = sound.bytes; levels = record { count = there.count; none_at_zero = there.none_at_zero } }

holds_put : (c d : Cell) (v : Value) (s : State) → Holds c s → Holds d s → Holds c (put d v s)
holds_put (ram_byte i) (ram_byte j) v s here there = cells_hold.has (ram_byte j) (ram_byte i) v (cells_of s) here
holds_put (ram_byte i) (pending_level l) v s here there = here
holds_put (pending_level k) (ram_byte j) v s here there = here
holds_put (pending_level k) (pending_level l) v s here there = cells_hold.has (pending_level l) (pending_level k) v (cells_of s) here
holds_put waiting_bytes d v s here there = absurd here
holds_put (ram_byte i) waiting_bytes v s here there = absurd there
holds_put (pending_level k) waiting_bytes v s here there = absurd there

pub has_put : (pages : ℕ) (c d : Cell) (v : Value) (s : State) → Has pages c s → Has pages d s → Fits d v → Has pages c (put d v s)
has_put pages c d v s here there fits = (sound_put pages d v s there.0 there.1 fits, holds_put c d v s here.1 there.1)
