-- The traps with their priorities and types (table 7-1), and which of several is taken (section 7.4).
use Rattle.std.specs.Prelude.{ℕ, ◌+◌, ◌-◌, ◌%◌, ◌==◌, ◌&&◌, ◌||◌, Bool, nat_lt, if◌then◌else◌, List, [], ◌∷◌, Option, Some, None}
use Rattle.sv8_trap.specs.declared.table.Trap.{Trap}
use Rattle.sv8_trap.specs.declared.table.Trap.TheVariants.{InstructionAccessException, PrivilegedInstruction, IllegalInstruction, FpDisabled, CpDisabled, WindowOverflow, WindowUnderflow, MemAddressNotAligned, DataAccessException, TagOverflow, DivisionByZero, TrapInstruction, Interrupt}
use Rattle.sv8_trap.specs.declared.table.Row.{Row}

abbrev pub row : ℕ → ℕ → Row
row priority trap_type = record { priority = priority; trap_type = trap_type }

-- the row of a trap: its priority, 1 being the highest, and its type, tt; of a trap instruction's number the low seven bits count,
-- and of a level the low four
unfoldable pub row_of : Trap → Row
row_of InstructionAccessException = row 5 0x01
row_of PrivilegedInstruction = row 6 0x03
row_of IllegalInstruction = row 7 0x02
row_of FpDisabled = row 8 0x04
row_of CpDisabled = row 8 0x24
row_of WindowOverflow = row 9 0x05
row_of WindowUnderflow = row 9 0x06
row_of MemAddressNotAligned = row 10 0x07
row_of DataAccessException = row 13 0x09
row_of TagOverflow = row 14 0x0a
row_of DivisionByZero = row 15 0x2a
row_of (TrapInstruction number) = row 16 (0x80 + number % 0x80)
row_of (Interrupt level) = row (32 - level % 0x10) (0x10 + level % 0x10)

-- a row comes before another: it has the lower priority number, or with the same one the lower type
abbrev pub is_before : Row → Row → Bool
is_before a b = nat_lt a.priority b.priority || (a.priority == b.priority && nat_lt a.trap_type b.trap_type)

-- of two traps the one that comes first
abbrev pub first_of : Trap → Trap → Trap
first_of t u = if is_before (row_of u) (row_of t) then u else t

-- of a trap and others the one that comes first
abbrev pub first_among : Trap → List Trap → Trap
first_among t [] = t
first_among t (u ∷ us) = first_among (first_of t u) us

-- the trap that is taken of those raised
abbrev pub taken : List Trap → Option Trap
taken [] = None
taken (t ∷ ts) = Some (first_among t ts)
