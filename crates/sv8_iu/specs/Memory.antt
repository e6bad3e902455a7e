-- Loads, stores, LDSTUB and SWAP (Appendices B.1 to B.8): the access that each asks for, and what it makes of the answer.
use Rattle.std.specs.Prelude.{ℕ, ◌+◌, ◌*◌, ◌/◌, ◌%◌, ◌^◌, ◌==◌, Bool, not, ◌&&◌, true, false, List, ◌++◌}
use Rattle.sv8_isa.specs.declared.instr.MemoryOp.{MemoryOp}
use Rattle.sv8_isa.specs.declared.instr.MemoryOp.TheVariants as memory
use Rattle.sv8_model.specs.Words.{signed, word_of_number, low_word}
use Rattle.sv8_model.specs.declared.size.Size.{Size}
use Rattle.sv8_model.specs.declared.size.Size.TheVariants.{Byte, Half, Word, Double}
use Rattle.sv8_model.specs.Size.{bytes_in}
use Rattle.sv8_regs.specs.Ring.{read}
use Rattle.sv8_trap.specs.declared.table.Trap.{Trap}
use Rattle.sv8_trap.specs.declared.table.Trap.TheVariants.{IllegalInstruction, MemAddressNotAligned}
use Rattle.sv8_trap.specs.Processor.{Processor, advanced, with_register, with_result}
use Rattle.sv8_iu.specs.Operands.{when}
use Rattle.sv8_iu.specs.declared.memory.Transfer.{Transfer}
use Rattle.sv8_iu.specs.declared.memory.TransferKind.{TransferKind}
use Rattle.sv8_iu.specs.declared.memory.TransferKind.TheVariants as kinds
use Rattle.sv8_trap.specs.declared.request.AccessRequest.{AccessRequest}
use Rattle.sv8_trap.specs.declared.request.AccessRequest.TheVariants.{Load, Store, Exchange}

-- what each of them does, and of how much
abbrev pub transfer_of : MemoryOp → Transfer
transfer_of memory.Ld = record { kind = kinds.Load; size = Word }
transfer_of memory.Ldub = record { kind = kinds.Load; size = Byte }
transfer_of memory.Lduh = record { kind = kinds.Load; size = Half }
transfer_of memory.Ldd = record { kind = kinds.Load; size = Double }
transfer_of memory.Ldsb = record { kind = kinds.LoadSigned; size = Byte }
transfer_of memory.Ldsh = record { kind = kinds.LoadSigned; size = Half }
transfer_of memory.St = record { kind = kinds.Store; size = Word }
transfer_of memory.Stb = record { kind = kinds.Store; size = Byte }
transfer_of memory.Sth = record { kind = kinds.Store; size = Half }
transfer_of memory.Std = record { kind = kinds.Store; size = Double }
transfer_of memory.Swap = record { kind = kinds.Swap; size = Word }
transfer_of memory.Ldstub = record { kind = kinds.Mark; size = Byte }

abbrev pub size_of : MemoryOp → Size
size_of op = (transfer_of op).size

-- a doubleword stands in an even register and the odd one behind it
abbrev pub odd_register : ℕ → ℕ
odd_register rd = rd / 2 * 2 + 1

abbrev pub takes_pair : Size → Bool
takes_pair Double = true
takes_pair size = false

-- an odd register for a doubleword is illegal; the address is a multiple of the size
unfoldable pub memory_traps : MemoryOp → ℕ → ℕ → List Trap
memory_traps op rd address =
    when (takes_pair (size_of op) && rd % 2 == 1) IllegalInstruction ++ when (not (address % bytes_in (size_of op) == 0)) MemAddressNotAligned

-- the doubleword of two registers
abbrev pub pair : ℕ → Processor → ℕ → ℕ
pair windows p rd = read windows p.registers rd * 2 ^ 32 + read windows p.registers (odd_register rd)

-- what a store takes of the registers
abbrev pub stored : ℕ → Processor → Size → ℕ → ℕ
stored windows p Double rd = pair windows p rd
stored windows p size rd = read windows p.registers rd

-- the access of a kind and a size in an address space
abbrev pub requested : ℕ → Processor → TransferKind → Size → ℕ → ℕ → ℕ → AccessRequest
requested windows p kinds.Load size asi rd address = Load size asi address
requested windows p kinds.LoadSigned size asi rd address = Load size asi address
requested windows p kinds.Store size asi rd address = Store size asi address (stored windows p size rd)
requested windows p kinds.Swap size asi rd address = Exchange size asi address (read windows p.registers rd)
requested windows p kinds.Mark size asi rd address = Exchange size asi address 0xff

unfoldable pub access_of : ℕ → Processor → MemoryOp → ℕ → ℕ → ℕ → AccessRequest
access_of windows p op asi rd address = requested windows p (transfer_of op).kind (size_of op) asi rd address

-- k bits with their sign in the bits above
unfoldable pub sign_extended : ℕ → ℕ → ℕ
sign_extended value k = word_of_number (signed (value % 2 ^ k) k)

-- both registers are written, and the processor goes on
unfoldable pub with_pair : ℕ → Processor → ℕ → ℕ → Processor
with_pair windows p rd value = with_result windows (with_register windows p rd (value / 2 ^ 32 % 2 ^ 32)) (odd_register rd) (low_word value)

-- what was loaded goes to rd, or to rd and the register behind it
abbrev pub loaded : ℕ → Processor → Size → ℕ → ℕ → Processor
loaded windows p Double rd value = with_pair windows p rd value
loaded windows p size rd value = with_result windows p rd (low_word value)

-- a byte or a halfword with its sign; no instruction loads more so
abbrev pub with_sign : Size → ℕ → ℕ
with_sign Byte value = sign_extended value 8
with_sign Half value = sign_extended value 16
with_sign size value = low_word value

-- the end of a kind and a size, with the number that the access gave; a store leaves the registers
abbrev pub finished_transfer : ℕ → Processor → TransferKind → Size → ℕ → ℕ → Processor
finished_transfer windows p kinds.Load size rd value = loaded windows p size rd value
finished_transfer windows p kinds.LoadSigned size rd value = with_result windows p rd (with_sign size value)
finished_transfer windows p kinds.Store size rd value = advanced p
finished_transfer windows p kinds.Swap size rd value = with_result windows p rd (low_word value)
finished_transfer windows p kinds.Mark size rd value = with_result windows p rd (low_word value)

unfoldable pub transferred_data : ℕ → Processor → MemoryOp → ℕ → ℕ → Processor
transferred_data windows p op rd value = finished_transfer windows p (transfer_of op).kind (size_of op) rd value
