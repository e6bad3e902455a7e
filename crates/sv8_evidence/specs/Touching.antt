-- Whether recorded steps touch some bytes of RAM, by their notes.
use Rattle.std.specs.Prelude.{◌≡◌, ℕ, ◌+◌, ◌<◌, ◌≤◌, false}
use Rattle.sv8_model.specs.declared.touch.TouchKind.{TouchKind}
use Rattle.sv8_model.specs.Cells.{ram_byte}
use Rattle.sv8_notes.specs.Touching.{touches_as}
use Rattle.sv8_trace.specs.Recording.{Recording, trace_of}

-- NO STEP TOUCHES, from one step on and below another, the word of one of so many bytes from an address on, by the touches that count
abbrev pub NoneTouches : (kind : TouchKind) → (windows pages k : ℕ) → Recording → (address count from to : ℕ) → Type 0
NoneTouches kind windows pages k r address count from to =
    (n i : ℕ) → from ≤ n → n < to → address ≤ i → i < address + count → touches_as kind ((trace_of windows pages k r).notes n) (ram_byte i) ≡ false
