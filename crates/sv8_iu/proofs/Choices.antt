-- Which trap is taken of those that an instruction raises.
use Rattle.std.proofs.Common.{◌≡◌, ◌⊎◌, inl, inr, ℕ, ◌%◌, Bool, true, false, not, ◌&&◌, ◌==◌, cond, [], ◌∷◌, ◌++◌, Some, None, refl, arith}
use Rattle.std.proofs.lemmas.Bool.Decides.{nat_tests}
use Rattle.sv8_trap.specs.declared.table.Trap.{Trap}
use Rattle.sv8_trap.specs.declared.table.Trap.TheVariants.{PrivilegedInstruction, IllegalInstruction, FpDisabled, CpDisabled, WindowUnderflow, MemAddressNotAligned}
use Rattle.sv8_trap.specs.Table.{row_of, taken}
use Rattle.sv8_trap.specs.Processor.{Processor}
use Rattle.sv8_model.specs.Words.{bit}
use Rattle.sv8_regs.specs.Control.{above}
use Rattle.sv8_isa.specs.declared.instr.Operand.{Operand}
use Rattle.sv8_isa.specs.declared.instr.StateRegister.{StateRegister}
use Rattle.sv8_isa.specs.declared.instr.MemoryOp.{MemoryOp}
use Rattle.sv8_model.specs.declared.size.Size.{Size}
use Rattle.sv8_model.specs.Size.{bytes_in}
use Rattle.sv8_iu.specs.Operands.{sum_of_sources, when}
use Rattle.sv8_iu.specs.Control.{is_misaligned, jump_traps, return_traps}
use Rattle.sv8_iu.specs.StateRegisters.{is_privileged, names_no_window, written_word, write_traps}
use Rattle.sv8_trap.specs.Requests.{IsAligned}
use Rattle.sv8_iu.specs.declared.memory.TransferKind.{TransferKind}
use Rattle.sv8_iu.specs.declared.memory.TransferKind.TheVariants as kinds
use Rattle.sv8_iu.specs.Memory.{transfer_of, size_of, takes_pair, memory_traps, requested, access_of}
use Rattle.sv8_iu.specs.Instruction.{alternate_traps}

-- one condition
pub alone : (b : Bool) (t : Trap) → taken (when b t) ≡ cond b (Some t) None
alone true t = refl
alone false t = refl

-- the priorities of those that come together
pub memory_choice : (a b : Bool) →
    taken (when a IllegalInstruction ++ when b MemAddressNotAligned) ≡ cond a (Some IllegalInstruction) (cond b (Some MemAddressNotAligned) None)
unfolding row_of
memory_choice true true = refl
memory_choice true false = refl
memory_choice false true = refl
memory_choice false false = refl

pub write_choice : (a b : Bool) →
    taken (when a PrivilegedInstruction ++ when b IllegalInstruction) ≡ cond a (Some PrivilegedInstruction) (cond b (Some IllegalInstruction) None)
unfolding row_of
write_choice true true = refl
write_choice true false = refl
write_choice false true = refl
write_choice false false = refl

pub alternate_choice : (a b c : Bool) → taken (when a PrivilegedInstruction ++ (when b IllegalInstruction ++ when c MemAddressNotAligned))
    ≡ cond a (Some PrivilegedInstruction) (cond b (Some IllegalInstruction) (cond c (Some MemAddressNotAligned) None))
unfolding row_of
alternate_choice true true true = refl
alternate_choice true true false = refl
alternate_choice true false true = refl
alternate_choice true false false = refl
alternate_choice false true true = refl
alternate_choice false true false = refl
alternate_choice false false true = refl
alternate_choice false false false = refl

pub return_choice : (a b c : Bool) →
    taken (when a PrivilegedInstruction ++ when b WindowUnderflow ++ when c MemAddressNotAligned)
    ≡ cond a (Some PrivilegedInstruction) (cond b (Some WindowUnderflow) (cond c (Some MemAddressNotAligned) None))
unfolding row_of
return_choice true true true = refl
return_choice true true false = refl
return_choice true false true = refl
return_choice true false false = refl
return_choice false true true = refl
return_choice false true false = refl
return_choice false false true = refl
return_choice false false false = refl

-- user mode is told before all else that a word may raise
pub privileged_choice : (a : Bool) (t : Trap) → (t ≡ FpDisabled) ⊎ ((t ≡ CpDisabled) ⊎ (t ≡ IllegalInstruction)) →
    taken (when a PrivilegedInstruction ++ t ∷ []) ≡ cond a (Some PrivilegedInstruction) (Some t)
unfolding row_of
privileged_choice true t (inl e) = rw e refl
privileged_choice true t (inr (inl e)) = rw e refl
privileged_choice true t (inr (inr e)) = rw e refl
privileged_choice false t e = refl

-- ---- where no trap is taken

pub none_alone : (b : Bool) (t : Trap) → taken (when b t) ≡ None → b ≡ false
none_alone true t e = absurd cc
none_alone false t e = refl

pub none_second : (a b : Bool) (t u : Trap) → taken (when a t ++ when b u) ≡ None → b ≡ false
none_second true b t u e = absurd cc
none_second false b t u e = none_alone b u e

none_third : (a b c : Bool) (t u v : Trap) → taken (when a t ++ when b u ++ when c v) ≡ None → c ≡ false
none_third true b c t u v e = absurd (first_taken b c e)
  where
    first_taken : (b c : Bool) → taken (t ∷ [] ++ when b u ++ when c v) ≡ None → ⊥
    first_taken true true f = absurd cc
    first_taken true false f = absurd cc
    first_taken false true f = absurd cc
    first_taken false false f = absurd cc
none_third false b c t u v e = none_second b c u v e

none_returning : (traps supervisor b c : Bool) →
    taken (cond traps (cond supervisor (IllegalInstruction ∷ []) (PrivilegedInstruction ∷ [])) (when (not supervisor) PrivilegedInstruction ++ when b WindowUnderflow ++ when c MemAddressNotAligned)) ≡ None
    → c ≡ false
none_returning true true b c e = absurd cc
none_returning true false b c e = absurd cc
none_returning false s b c e = none_third (not s) b c PrivilegedInstruction WindowUnderflow MemAddressNotAligned e

multiple : (n : ℕ) → not (n == 0) ≡ false → n ≡ 0
multiple n e = grind (arith, nat_tests)

-- the target of a jump
pub aligned_jump : (windows : ℕ) (p : Processor) (rs1 : ℕ) (operand : Operand) → taken (jump_traps windows p rs1 operand) ≡ None → sum_of_sources windows p rs1 operand % 4 ≡ 0
aligned_jump windows p rs1 operand e = multiple (sum_of_sources windows p rs1 operand % 4) (none_alone (is_misaligned (sum_of_sources windows p rs1 operand)) MemAddressNotAligned e)

-- the target of RETT
pub aligned_return : (windows : ℕ) (p : Processor) (rs1 : ℕ) (operand : Operand) → taken (return_traps windows p rs1 operand) ≡ None → sum_of_sources windows p rs1 operand % 4 ≡ 0
unfolding return_traps
aligned_return windows p rs1 operand e =
    multiple (sum_of_sources windows p rs1 operand % 4)
    (none_returning p.registers.psr.et p.registers.psr.s (bit p.registers.wim (above windows p.registers.cwp)) (is_misaligned (sum_of_sources windows p rs1 operand)) e)

-- the window of a word for the PSR
pub present_window : (windows : ℕ) (p : Processor) (register : StateRegister) (rs1 : ℕ) (operand : Operand) → taken (write_traps windows p register rs1 operand) ≡ None
    → names_no_window windows register (written_word windows p rs1 operand) ≡ false
present_window windows p register rs1 operand e =
    none_second (is_privileged register && not p.registers.psr.s) (names_no_window windows register (written_word windows p rs1 operand)) PrivilegedInstruction IllegalInstruction e

-- the address of a load or a store
pub aligned_access : (op : MemoryOp) (rd address : ℕ) → taken (memory_traps op rd address) ≡ None → address % bytes_in (size_of op) ≡ 0
unfolding memory_traps
aligned_access op rd address e =
    multiple (address % bytes_in (size_of op)) (none_second (takes_pair (size_of op) && rd % 2 == 1) (not (address % bytes_in (size_of op) == 0)) IllegalInstruction MemAddressNotAligned e)

pub aligned_request : (windows : ℕ) (p : Processor) (op : MemoryOp) (asi rd address : ℕ) → taken (memory_traps op rd address) ≡ None → IsAligned (access_of windows p op asi rd address)
unfolding access_of
aligned_request windows p op asi rd address e = of_kind (transfer_of op).kind (size_of op) (aligned_access op rd address e)
  where
    of_kind : (kind : TransferKind) (size : Size) → address % bytes_in size ≡ 0 → IsAligned (requested windows p kind size asi rd address)
    of_kind kinds.Load size h = h
    of_kind kinds.LoadSigned size h = h
    of_kind kinds.Store size h = h
    of_kind kinds.Swap size h = h
    of_kind kinds.Mark size h = h

-- the address of an alternate space form
pub aligned_alternate : (windows : ℕ) (p : Processor) (op : MemoryOp) (asi rd address : ℕ) → taken (alternate_traps p (memory_traps op rd address)) ≡ None → IsAligned (access_of windows p op asi rd address)
unfolding alternate_traps memory_traps
aligned_alternate windows p op asi rd address e =
    aligned_request windows p op asi rd address (none_of_rest (not p.registers.psr.s) (takes_pair (size_of op) && rd % 2 == 1) (not (address % bytes_in (size_of op) == 0)) e)
  where
    none_of_rest : (a b c : Bool) → taken (when a PrivilegedInstruction ++ (when b IllegalInstruction ++ when c MemAddressNotAligned)) ≡ None → taken (when b IllegalInstruction ++ when c MemAddressNotAligned) ≡ None
    none_of_rest true true true e = absurd cc
    none_of_rest true true false e = absurd cc
    none_of_rest true false true e = absurd cc
    none_of_rest true false false e = absurd cc
    none_of_rest false b c e = e
