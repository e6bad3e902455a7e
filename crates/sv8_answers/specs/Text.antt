-- The texts of answers that show the source or the machine, as bytes.
use Rattle.std.specs.Prelude.{ℕ, ◌%◌, ◌==◌, Bool, List, [], ◌∷◌, ◌++◌, take, drop, if◌then◌else◌, codes, decimal}
use Rattle.sv8_commands.specs.Text.{hex_byte, hex_word, numbered_text, words_line}
use Rattle.sv8_source.specs.Listing.{ListedLine}
use Rattle.sv8_workbench.specs.declared.shown.Shown.{Shown}

-- ---- the listing

-- a byte of a line, with a space before each group of four
unfoldable pub listed_byte : ℕ → ℕ → List ℕ
listed_byte i b = (if i % 4 == 0 then codes " " else []) ++ hex_byte b

-- the line of the listing for line i: its address, its bytes in groups of up to four, and its text
unfoldable pub listing_line : ℕ → ListedLine → List ℕ
listing_line i l = (decimal i ++ codes " " ++ hex_word l.address) ++ (numbered_text listed_byte 0 l.bytes ++ (codes " |" ++ l.text ++ codes "\n"))

-- the lines of the listing, from 1 on
abbrev pub listing_text : List ListedLine → List ℕ
listing_text lines = numbered_text listing_line 1 lines

-- ---- the machine's state

abbrev pub mode_name : Bool → List ℕ
mode_name running = if running then codes "run" else codes "error"

abbrev pub flag : Bool → List ℕ
flag b = if b then codes "1" else codes "0"

unfoldable pub step_text : ℕ → Shown → List ℕ
step_text n s = codes "step " ++ decimal n ++ codes " " ++ mode_name s.running ++ codes "\n"

unfoldable pub counters_text : Shown → List ℕ
counters_text s = codes "pc " ++ hex_word s.pc ++ codes " npc " ++ hex_word s.npc ++ codes " annul " ++ flag s.annul ++ codes "\n"

unfoldable pub control_text : Shown → List ℕ
control_text s = codes "psr " ++ hex_word s.psr ++ codes " wim " ++ hex_word s.wim ++ codes " tbr " ++ hex_word s.tbr ++ codes " y " ++ hex_word s.y ++ codes "\n"

-- eight registers from this one on
abbrev pub eight : ℕ → List ℕ → List ℕ
eight first registers = take 8 (drop first registers)

-- the registers of the current window: globals, outs, locals and ins
unfoldable pub window_text : List ℕ → List ℕ
window_text r = words_line (codes "g") (eight 0 r) ++ words_line (codes "o") (eight 8 r) ++ words_line (codes "l") (eight 16 r) ++ words_line (codes "i") (eight 24 r)

-- the memory management unit, and the devices
unfoldable pub units_text : Shown → List ℕ
units_text s =
    words_line (codes "mmu") (s.mmu.control ∷ s.mmu.table_pointer ∷ s.mmu.context ∷ s.mmu.fault_status ∷ s.mmu.fault_address ∷ [])
    ++ words_line (codes "dev") (s.timer.count ∷ s.timer.reload ∷ s.pending ∷ s.waiting ∷ [])

-- the nine lines of `regs`
unfoldable pub regs_text : ℕ → Shown → List ℕ
regs_text n s = step_text n s ++ counters_text s ++ control_text s ++ window_text s.registers ++ units_text s
