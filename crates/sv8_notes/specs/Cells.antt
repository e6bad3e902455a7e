-- Cells and what stands in them, as code names them.
use Rattle.std.specs.Prelude.{ℕ, ◌*◌, ◌/◌, ◌<◌, ◌≤◌, Option, Some, None}
use Rattle.sv8_model.specs.Cells.{Cell, ram_byte, pending_level, Value, byte, held}
use Rattle.sv8_phys.specs.Memory.{ram_size}
use Rattle.sv8_notes.specs.declared.cell.Cell as code
use Rattle.sv8_notes.specs.declared.cell.Cell.TheVariants as cell
use Rattle.sv8_notes.specs.declared.cell.Content as code_content
use Rattle.sv8_notes.specs.declared.cell.Content.TheVariants as content

abbrev pub cell_of : code.Cell → Cell
cell_of (cell.Byte address) = ram_byte address
cell_of (cell.Level level) = pending_level level

abbrev pub content_of : code_content.Content → Value
content_of (content.Byte value) = byte value
content_of (content.Pending pending) = held pending

-- a machine with so many pages of RAM has the cell
abbrev pub IsCell : ℕ → code.Cell → Type 0
IsCell pages (cell.Byte address) = address < ram_size pages
IsCell pages (cell.Level level) = (1 ≤ level) × (level ≤ 15)

-- the address of the word that a byte is in
abbrev pub word_of_cell : code.Cell → Option ℕ
word_of_cell (cell.Byte address) = Some (4 * (address / 4))
word_of_cell (cell.Level level) = None
