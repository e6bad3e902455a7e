-- What each instruction does, one clause for each row of the opcode table. What the clauses say stands in the file of the row's group: Arithmetic,
-- Control, Windows, StateRegisters, Memory.
use Rattle.std.specs.Prelude.{◌≡◌, ℕ, Option, Some, None, not, ◌&&◌, List, [], ◌∷◌, ◌++◌, if◌then◌else◌}
use Rattle.sv8_isa.specs.Table.{is_queue_store}
use Rattle.sv8_isa.specs.declared.instr.Instr.{Instr}
use Rattle.sv8_isa.specs.declared.instr.Instr.TheVariants as row
use Rattle.sv8_isa.specs.declared.instr.MemoryOp.{MemoryOp}
use Rattle.sv8_isa.specs.declared.instr.Operand.TheVariants.{Register}
use Rattle.sv8_trap.specs.declared.table.Trap.{Trap}
use Rattle.sv8_trap.specs.declared.table.Trap.TheVariants.{PrivilegedInstruction, IllegalInstruction, FpDisabled, CpDisabled}
use Rattle.sv8_trap.specs.Table.{taken}
use Rattle.sv8_trap.specs.Entry.{with_trap, with_return_trap, returned}
use Rattle.sv8_trap.specs.Processor.{Processor, advanced}
use Rattle.sv8_trap.specs.declared.request.AccessRequest.{AccessRequest}
use Rattle.sv8_trap.specs.declared.request.AccessRequest.TheVariants.{Nothing}
use Rattle.sv8_iu.specs.Operands.{sum_of_sources, when}
use Rattle.sv8_iu.specs.Arithmetic.{arithmetic, arithmetic_traps, tagged, tagged_traps, multiply_step, shifted, upper_set}
use Rattle.sv8_iu.specs.Control.{branched, called, jump_traps, jumped, return_traps, number_traps}
use Rattle.sv8_iu.specs.Windows.{save_traps, restore_traps, saved, restored}
use Rattle.sv8_iu.specs.StateRegisters.{privilege_traps, state_read, write_traps, written_word, state_written}
use Rattle.sv8_iu.specs.Memory.{memory_traps, access_of, transferred_data}

-- ---- the traps of rows that have no group

-- in user mode a privileged instruction traps as one
abbrev pub unless_supervisor : Processor → List Trap
unless_supervisor p = when (not p.registers.psr.s) PrivilegedInstruction

-- there is no floating-point unit and no coprocessor; their queue stores are privileged (B.5, B.6)
unfoldable pub disabled_traps : Processor → ℕ → Trap → List Trap
disabled_traps p word disabled = when (is_queue_store word && not p.registers.psr.s) PrivilegedInstruction ++ disabled ∷ []

-- alternate spaces are the supervisor's (B.1 to B.8)
unfoldable pub alternate_traps : Processor → List Trap → List Trap
alternate_traps p traps = unless_supervisor p ++ traps

-- an alternate space form with i = 1
unfoldable pub immediate_traps : Processor → List Trap
immediate_traps p = unless_supervisor p ++ IllegalInstruction ∷ []

-- ---- an instruction

-- what an instruction does: the traps that it raises before its access to memory, what a trap that is taken makes of the processor, the access that
-- it asks for where it raises none, and what becomes of the processor once the access is answered with a value
pub record Behaviour : Type 0 where
  pub traps : List Trap
  pub trap_entry : Trap → Processor
  pub request : AccessRequest
  pub outcome : ℕ → Processor

-- an instruction that makes no access: its traps, and what becomes of the processor where it raises none
abbrev pub unaided : ℕ → Processor → List Trap → Processor → Behaviour
unaided windows p traps q = record { traps = traps; trap_entry = with_trap windows p; request = Nothing; outcome = λ value. q }

-- an instruction that always traps
abbrev pub trapping : ℕ → Processor → List Trap → Behaviour
trapping windows p traps = unaided windows p traps p

-- the address space of plain loads and stores: user or supervisor data
abbrev pub data_space : Processor → ℕ
data_space p = if p.registers.psr.s then 0x0b else 0x0a

-- an instruction that loads or stores: its traps, and the access in an address space
abbrev pub accessing : ℕ → Processor → List Trap → MemoryOp → ℕ → ℕ → ℕ → Behaviour
accessing windows p traps op asi rd address =
    record { traps = traps; trap_entry = with_trap windows p; request = access_of windows p op asi rd address; outcome = transferred_data windows p op rd }

abbrev pub behaviour : ℕ → Processor → Instr → Behaviour
behaviour windows p (row.Unimp imm22) = trapping windows p (IllegalInstruction ∷ [])
behaviour windows p (row.Bicc cond annul disp22) = unaided windows p [] (branched p cond annul disp22)
behaviour windows p (row.Sethi imm22 rd) = unaided windows p [] (upper_set windows p rd imm22)
behaviour windows p (row.Call disp30) = unaided windows p [] (called windows p disp30)
behaviour windows p (row.Arith op cc rd rs1 operand) = unaided windows p (arithmetic_traps windows p op operand) (arithmetic windows p op cc rd rs1 operand)
behaviour windows p (row.Tagged op rd rs1 operand) = unaided windows p (tagged_traps windows p op rs1 operand) (tagged windows p op rd rs1 operand)
behaviour windows p (row.Mulscc rd rs1 operand) = unaided windows p [] (multiply_step windows p rd rs1 operand)
behaviour windows p (row.Shift op rd rs1 count) = unaided windows p [] (shifted windows p op rd rs1 count)
behaviour windows p (row.ReadState register rd) = unaided windows p (privilege_traps p register) (state_read windows p register rd)
behaviour windows p row.Stbar = unaided windows p [] (advanced p)
behaviour windows p (row.WriteState register rs1 operand) =
    unaided windows p (write_traps windows p register rs1 operand) (state_written windows p register (written_word windows p rs1 operand))
behaviour windows p (row.Jmpl rd rs1 operand) = unaided windows p (jump_traps windows p rs1 operand) (jumped windows p rd (sum_of_sources windows p rs1 operand))
behaviour windows p (row.Rett rs1 operand) =
    record (unaided windows p (return_traps windows p rs1 operand) (returned windows p (sum_of_sources windows p rs1 operand))) { trap_entry = with_return_trap windows p }
behaviour windows p (row.Ticc cond rs1 operand) = unaided windows p (number_traps windows p cond rs1 operand) (advanced p)
behaviour windows p (row.Flush rs1 operand) = unaided windows p [] (advanced p)
behaviour windows p (row.Save rd rs1 operand) = unaided windows p (save_traps windows p) (saved windows p rd rs1 operand)
behaviour windows p (row.Restore rd rs1 operand) = unaided windows p (restore_traps windows p) (restored windows p rd rs1 operand)
behaviour windows p (row.Memory op rd rs1 operand) =
    accessing windows p (memory_traps op rd (sum_of_sources windows p rs1 operand)) op (data_space p) rd (sum_of_sources windows p rs1 operand)
behaviour windows p (row.Alternate op rd rs1 rs2 asi) =
    accessing windows p (alternate_traps p (memory_traps op rd (sum_of_sources windows p rs1 (Register rs2)))) op asi rd (sum_of_sources windows p rs1 (Register rs2))
behaviour windows p (row.Fp word) = trapping windows p (disabled_traps p word FpDisabled)
behaviour windows p (row.Cp word) = trapping windows p (disabled_traps p word CpDisabled)
behaviour windows p row.AltImm = trapping windows p (immediate_traps p)
behaviour windows p row.Illegal = trapping windows p (IllegalInstruction ∷ [])

-- ---- its parts

-- the traps that an instruction raises before its access
abbrev pub raised : ℕ → Processor → Instr → List Trap
raised windows p i = (behaviour windows p i).traps

-- what a trap that it takes makes of the processor
abbrev pub trapped : ℕ → Processor → Instr → Trap → Processor
trapped windows p i t = (behaviour windows p i).trap_entry t

-- the access to memory that it asks for
abbrev pub asked : ℕ → Processor → Instr → AccessRequest
asked windows p i = (behaviour windows p i).request

-- its end where it raised no trap, with the value that its access gave
abbrev pub complete : ℕ → Processor → Instr → ℕ → Processor
complete windows p i value = (behaviour windows p i).outcome value

-- what an instruction that makes no access comes to: the trap that it takes, or its end
abbrev pub ended : ℕ → Processor → Instr → Option Trap → Processor
ended windows p i (Some t) = trapped windows p i t
ended windows p i None = complete windows p i 0

-- the instruction asks for no access, and makes q of the processor p
abbrev pub IsUnaided : ℕ → Processor → Instr → Processor → Type 0
IsUnaided windows p i q = (asked windows p i ≡ Nothing) × (q ≡ ended windows p i (taken (raised windows p i)))
