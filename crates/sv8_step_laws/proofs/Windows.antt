-- A step that leaves CWP writes no register outside the current window.
use Rattle.std.proofs.Common.{◌≡◌, ◌≢◌, ℕ, ◌+◌, ◌/◌, ◌%◌, ◌^◌, ◌<◌, ◌≤◌, ◌==◌, Bool, true, false, cond, Option, Some, None, replicate, refl, sym, ◌∙◌, ap, subst, arith}
use Rattle.std.specs.Prelude.{◌&&◌}
use Rattle.sv8_isa.specs.declared.instr.Instr.{Instr}
use Rattle.sv8_isa.specs.declared.instr.Instr.TheVariants as row
use Rattle.sv8_isa.specs.declared.instr.ArithOp.{ArithOp}
use Rattle.sv8_isa.specs.declared.instr.ArithOp.TheVariants as operation
use Rattle.sv8_isa.specs.declared.instr.MemoryOp.{MemoryOp}
use Rattle.sv8_isa.specs.declared.instr.MemoryOp.TheVariants as memory
use Rattle.sv8_isa.specs.declared.instr.Operand.{Operand}
use Rattle.sv8_isa.specs.declared.instr.StateRegister.{StateRegister}
use Rattle.sv8_isa.specs.declared.instr.StateRegister.TheVariants as state
use Rattle.sv8_alu.specs.declared.Answer.{Answer}
use Rattle.sv8_alu.specs.Arithmetic.{quotient_of, signed_quotient_of}
use Rattle.sv8_model.specs.Outside.{Outside}
use Rattle.sv8_model.specs.Action.{Action, done, ◌>>=◌, result_of, after}
use Rattle.sv8_model.proofs.Actions.{result_of-then}
use Rattle.sv8_regs.specs.Control.{below, above, with_trap_type}
use Rattle.sv8_regs.specs.Current.{ring_of, other_windows}
use Rattle.sv8_regs.specs.Ring.{Registers, write}
use Rattle.sv8_regs.proofs.Current.{others_written, window_kept}
use Rattle.sv8_regs.proofs.Places.{above_apart, below_apart}
use Rattle.sv8_trap.specs.declared.table.Trap.{Trap}
use Rattle.sv8_trap.specs.declared.table.Trap.TheVariants.{Interrupt}
use Rattle.sv8_trap.specs.Table.{row_of}
use Rattle.sv8_trap.specs.Processor.{Processor, plus, advanced, transferred, slot_skipped, with_result, in_window}
use Rattle.sv8_trap.specs.Entry.{trap_registers, entered_from, entered, stopped, interrupted, with_trap, with_return_trap, returned}
use Rattle.sv8_trap.specs.Interrupt.{highest}
use Rattle.sv8_trap.specs.declared.request.Response.{Response}
use Rattle.sv8_trap.specs.declared.request.Response.TheVariants.{Value, Refused}
use Rattle.sv8_iu.specs.Operands.{sum_of_sources}
use Rattle.sv8_iu.specs.Arithmetic.{finished, finished_product, finished_quotient, operated, multiply_step, shifted}
use Rattle.sv8_iu.specs.Control.{is_always, distance, holds, branched, called, jumped}
use Rattle.sv8_iu.specs.Windows.{moved}
use Rattle.sv8_iu.specs.StateRegisters.{state_read, state_written}
use Rattle.sv8_iu.specs.declared.memory.TransferKind.{TransferKind}
use Rattle.sv8_iu.specs.declared.memory.TransferKind.TheVariants as kinds
use Rattle.sv8_iu.specs.Memory.{transfer_of, size_of, odd_register, with_pair, finished_transfer, transferred_data}
use Rattle.sv8_iu.specs.Instruction.{trapped, complete}
use Rattle.sv8_memory.specs.Units.{Units}
use Rattle.sv8_time.specs.Schedule.{arrived}
use Rattle.sv8_phys.specs.Contents.{outside_of}
use Rattle.sv8_phys.specs.Memory.{ram_size}
use Rattle.sv8_model.specs.declared.size.Size.{Size}
use Rattle.sv8_model.specs.declared.size.Size.TheVariants.{Byte, Half, Word, Double}
use Rattle.sv8_cpu.specs.State.{inner_of}
use Rattle.sv8_cpu.specs.Step.{Inner, observed_trap, executed, fetched, finished_access, instruction, continued, requested, interruptible, awake, action}
use Rattle.sv8_cpu.specs.Run as run
use Rattle.sv8_step_laws.specs.Windows.{LeavesOtherWindows, OtherWindowsStay}
use Rattle.sv8_step_laws.proofs.Targets.{HasTarget, target_of_word}

-- ---- what leaves them, of a processor p whose current window is a window

module _ (windows : ℕ) (two : 2 ≤ windows) (p : Processor) (w_in : p.registers.cwp < windows) where
  abbrev Leaves : Processor → Type 0
  Leaves q = LeavesOtherWindows windows p q

  -- all registers of the ring stay, whatever the current window is
  leaves_ring : (q : Processor) → q.registers.ring ≡ p.registers.ring → Leaves q
  leaves_ring q ring = record { others = λ cwp. λ i. ring_of windows (cwp i) (replicate 32 0) (ring i) }

  leaves_if : (b : Bool) (q r : Processor) → Leaves q → Leaves r → Leaves (cond b q r)
  leaves_if true q r h k = h
  leaves_if false q r h k = k

  -- the registers with one written, of those with the same current window and ring
  leaves_written : (q : Processor) (r : Registers) (rd value : ℕ) → r.cwp ≡ p.registers.cwp → r.ring ≡ p.registers.ring → rd < 32
      → q.registers ≡ write windows r rd value → Leaves q
  leaves_written q r rd value cwp ring target is = record {
    others = λ same.
        let r_in : r.cwp < windows = omega (arith, cwp, w_in) in
        ap (other_windows windows) is ∙ others_written windows r two r_in rd value target ∙ (λ i. ring_of windows (cwp i) (replicate 32 0) (ring i));
  }

  -- another window is the current one
  leaves_moved : (q : Processor) → q.registers.cwp ≢ p.registers.cwp → Leaves q
  leaves_moved q apart = record { others = λ same. absurd (apart same) }

  -- ---- instructions

  leaves_finished : (q : Processor) (cc : Bool) (rd : ℕ) (answer : Answer) → q.registers.cwp ≡ p.registers.cwp → q.registers.ring ≡ p.registers.ring → rd < 32
      → Leaves (finished windows q cc rd answer)
  unfolding finished with_result advanced
  leaves_finished q true rd answer cwp ring target = leaves_written _ _ rd answer.value cwp ring target refl
  leaves_finished q false rd answer cwp ring target = leaves_written _ _ rd answer.value cwp ring target refl

  leaves_quotient : (cc : Bool) (rd : ℕ) (answer : Option Answer) → rd < 32 → Leaves (finished_quotient windows p cc rd answer)
  unfolding advanced
  leaves_quotient cc rd None target = leaves_ring _ refl
  leaves_quotient cc rd (Some answer) target = leaves_finished p cc rd answer refl refl target

  leaves_operated : (op : ArithOp) (cc : Bool) (rd x y : ℕ) → rd < 32 → Leaves (operated windows p op cc rd x y)
  unfolding operated finished_product
  leaves_operated operation.Add cc rd x y target = leaves_finished p cc rd _ refl refl target
  leaves_operated operation.Addx cc rd x y target = leaves_finished p cc rd _ refl refl target
  leaves_operated operation.Sub cc rd x y target = leaves_finished p cc rd _ refl refl target
  leaves_operated operation.Subx cc rd x y target = leaves_finished p cc rd _ refl refl target
  leaves_operated operation.And cc rd x y target = leaves_finished p cc rd _ refl refl target
  leaves_operated operation.Andn cc rd x y target = leaves_finished p cc rd _ refl refl target
  leaves_operated operation.Or cc rd x y target = leaves_finished p cc rd _ refl refl target
  leaves_operated operation.Orn cc rd x y target = leaves_finished p cc rd _ refl refl target
  leaves_operated operation.Xor cc rd x y target = leaves_finished p cc rd _ refl refl target
  leaves_operated operation.Xnor cc rd x y target = leaves_finished p cc rd _ refl refl target
  leaves_operated operation.Umul cc rd x y target = leaves_finished _ cc rd _ refl refl target
  leaves_operated operation.Smul cc rd x y target = leaves_finished _ cc rd _ refl refl target
  leaves_operated operation.Udiv cc rd x y target = leaves_quotient cc rd (quotient_of p.registers.y x y) target
  leaves_operated operation.Sdiv cc rd x y target = leaves_quotient cc rd (signed_quotient_of p.registers.y x y) target

  leaves_result : (rd value : ℕ) → rd < 32 → Leaves (with_result windows p rd value)
  unfolding with_result advanced
  leaves_result rd value target = leaves_written _ p.registers rd value refl refl target refl

  leaves_state : (register : StateRegister) (word : ℕ) → Leaves (state_written windows p register word)
  unfolding state_written advanced
  leaves_state state.Y word = leaves_ring _ refl
  leaves_state state.Psr word = leaves_ring _ refl
  leaves_state state.Wim word = leaves_ring _ refl
  leaves_state state.Tbr word = leaves_ring _ refl

  leaves_window : (window rd rs1 : ℕ) (operand : Operand) → window ≢ p.registers.cwp → Leaves (moved windows p window rd rs1 operand)
  unfolding moved with_result advanced
  leaves_window window rd rs1 operand apart =
      leaves_moved _ (λ same. apart (sym (window_kept windows (in_window p window).registers rd (sum_of_sources windows p rs1 operand)) ∙ same))

  leaves_pair : (rd value : ℕ) → rd < 32 → Leaves (with_pair windows p rd value)
  unfolding with_pair with_result advanced
  leaves_pair rd value target =
      let first = write windows p.registers rd (value / 2 ^ 32 % 2 ^ 32) in
      let kept = window_kept windows p.registers rd (value / 2 ^ 32 % 2 ^ 32) in
      let first_in : first.cwp < windows = omega (arith, kept, w_in) in
      let odd_in : odd_register rd < 32 = omega (arith, target) in
      record {
        others = λ same.
            others_written windows first two first_in (odd_register rd) _ odd_in ∙ others_written windows p.registers two w_in rd _ target;
      }

  leaves_data : (op : MemoryOp) (rd value : ℕ) → rd < 32 → Leaves (transferred_data windows p op rd value)
  unfolding transferred_data advanced
  leaves_data op rd value target = of_kind (transfer_of op).kind (size_of op)
    where
      of_kind : (kind : TransferKind) (size : Size) → Leaves (finished_transfer windows p kind size rd value)
      of_kind kinds.Load Byte = leaves_result rd _ target
      of_kind kinds.Load Half = leaves_result rd _ target
      of_kind kinds.Load Word = leaves_result rd _ target
      of_kind kinds.Load Double = leaves_pair rd value target
      of_kind kinds.LoadSigned size = leaves_result rd _ target
      of_kind kinds.Store size = leaves_ring _ refl
      of_kind kinds.Swap size = leaves_result rd _ target
      of_kind kinds.Mark size = leaves_result rd _ target

  leaves_complete : (i : Instr) (value : ℕ) → HasTarget i → Leaves (complete windows p i value)
  unfolding branched called jumped returned multiply_step shifted state_read transferred advanced
  leaves_complete (row.Unimp imm22) value target = leaves_ring _ refl
  leaves_complete (row.Bicc condition annul disp22) value target =
      let taken = transferred p (plus p.pc (distance disp22)) (annul && is_always condition) in
      let other = transferred p (plus p.npc 4) annul in
      leaves_if (holds condition p.registers.psr) taken other (leaves_ring taken refl) (leaves_ring other refl)
  leaves_complete (row.Sethi imm22 rd) value target = leaves_result rd _ target
  leaves_complete (row.Call disp30) value target = leaves_written _ p.registers 15 _ refl refl (omega arith) refl
  leaves_complete (row.Arith op cc rd rs1 operand) value target = leaves_operated op cc rd _ _ target
  leaves_complete (row.Tagged op rd rs1 operand) value target = leaves_finished p true rd _ refl refl target
  leaves_complete (row.Mulscc rd rs1 operand) value target = leaves_finished _ true rd _ refl refl target
  leaves_complete (row.Shift op rd rs1 count) value target = leaves_result rd _ target
  leaves_complete (row.ReadState register rd) value target = leaves_result rd _ target
  leaves_complete row.Stbar value target = leaves_ring _ refl
  leaves_complete (row.WriteState register rs1 operand) value target = leaves_state register _
  leaves_complete (row.Jmpl rd rs1 operand) value target = leaves_written _ p.registers rd _ refl refl target refl
  leaves_complete (row.Rett rs1 operand) value target = leaves_ring _ refl
  leaves_complete (row.Ticc condition rs1 operand) value target = leaves_ring _ refl
  leaves_complete (row.Flush rs1 operand) value target = leaves_ring _ refl
  leaves_complete (row.Save rd rs1 operand) value target = leaves_window (below windows p.registers.cwp) rd rs1 operand (below_apart windows p.registers.cwp two w_in)
  leaves_complete (row.Restore rd rs1 operand) value target = leaves_window (above windows p.registers.cwp) rd rs1 operand (above_apart windows p.registers.cwp two w_in)
  leaves_complete (row.Memory op rd rs1 operand) value target = leaves_data op rd value target
  leaves_complete (row.Alternate op rd rs1 rs2 asi) value target = leaves_data op rd value target
  leaves_complete (row.Fp word) value target = leaves_ring _ refl
  leaves_complete (row.Cp word) value target = leaves_ring _ refl
  leaves_complete row.AltImm value target = leaves_ring _ refl
  leaves_complete row.Illegal value target = leaves_ring _ refl

  -- ---- traps

  window_of_trap : (t : Trap) → (trap_registers windows p.registers t).cwp ≡ below windows p.registers.cwp
  unfolding trap_registers
  window_of_trap t = refl

  leaves_entered : (t : Trap) (pc npc : ℕ) → Leaves (entered_from windows p t pc npc)
  unfolding entered_from
  leaves_entered t pc npc =
      let r = trap_registers windows p.registers t in
      leaves_moved _ (λ same.
      below_apart windows p.registers.cwp two w_in (sym (window_of_trap t) ∙ sym (window_kept windows r 17 pc) ∙ sym (window_kept windows (write windows r 17 pc) 18 npc) ∙ same))

  leaves_trap : (t : Trap) → Leaves (with_trap windows p t)
  unfolding with_trap
  leaves_trap t = leaves_if p.registers.psr.et (entered windows p t) (stopped p) (leaves_entered t p.pc p.npc) (leaves_ring (stopped p) refl)

  leaves_return_trap : (t : Trap) → Leaves (with_return_trap windows p t)
  unfolding with_return_trap
  leaves_return_trap t =
      let q = stopped (record p { registers = record p.registers { tbr = with_trap_type p.registers.tbr (row_of t).trap_type } }) in
      leaves_if p.registers.psr.et (entered windows p t) q (leaves_entered t p.pc p.npc) (leaves_ring q refl)

  leaves_interrupt : (level : ℕ) → Leaves (interrupted windows p level)
  unfolding interrupted
  leaves_interrupt level =
      let t = Interrupt level in
      leaves_if p.annul (entered_from windows p t p.npc (plus p.npc 4)) (entered windows p t) (leaves_entered t p.npc (plus p.npc 4)) (leaves_entered t p.pc p.npc)

  leaves_trapped : (i : Instr) (t : Trap) → Leaves (trapped windows p i t)
  leaves_trapped (row.Unimp imm22) t = leaves_trap t
  leaves_trapped (row.Bicc condition annul disp22) t = leaves_trap t
  leaves_trapped (row.Sethi imm22 rd) t = leaves_trap t
  leaves_trapped (row.Call disp30) t = leaves_trap t
  leaves_trapped (row.Arith op cc rd rs1 operand) t = leaves_trap t
  leaves_trapped (row.Tagged op rd rs1 operand) t = leaves_trap t
  leaves_trapped (row.Mulscc rd rs1 operand) t = leaves_trap t
  leaves_trapped (row.Shift op rd rs1 count) t = leaves_trap t
  leaves_trapped (row.ReadState register rd) t = leaves_trap t
  leaves_trapped row.Stbar t = leaves_trap t
  leaves_trapped (row.WriteState register rs1 operand) t = leaves_trap t
  leaves_trapped (row.Jmpl rd rs1 operand) t = leaves_trap t
  leaves_trapped (row.Rett rs1 operand) t = leaves_return_trap t
  leaves_trapped (row.Ticc condition rs1 operand) t = leaves_trap t
  leaves_trapped (row.Flush rs1 operand) t = leaves_trap t
  leaves_trapped (row.Save rd rs1 operand) t = leaves_trap t
  leaves_trapped (row.Restore rd rs1 operand) t = leaves_trap t
  leaves_trapped (row.Memory op rd rs1 operand) t = leaves_trap t
  leaves_trapped (row.Alternate op rd rs1 rs2 asi) t = leaves_trap t
  leaves_trapped (row.Fp word) t = leaves_trap t
  leaves_trapped (row.Cp word) t = leaves_trap t
  leaves_trapped row.AltImm t = leaves_trap t
  leaves_trapped row.Illegal t = leaves_trap t

  -- ---- a step

  record LeadsOn (a : Action Inner) : Type 0 where
    pub leaves : (o : Outside) → Leaves (result_of a o).processor

  on_done : (x : Inner) → Leaves x.processor → LeadsOn (done x)
  on_done x h = record { leaves = λ o. h }

  on_if : (b : Bool) (x y : Action Inner) → LeadsOn x → LeadsOn y → LeadsOn (cond b x y)
  on_if true x y h k = h
  on_if false x y h k = k

  on_then : {A : Type 0} (a : Action A) (f : A → Action Inner) → ((x : A) → LeadsOn (f x)) → LeadsOn (a >>= f)
  on_then a f h = record {
    leaves = λ o. subst (λ (x : Inner). Leaves x.processor) (sym (result_of-then a f o)) ((h (result_of a o)).leaves (after a o));
  }

  module _ (limit : ℕ) where
    on_answer : (i : Instr) (r : Response) (u : Units) → HasTarget i → LeadsOn (observed_trap r (done (finished_access windows p i (record { response = r; units = u }))))
    on_answer i (Value value) u target = record { leaves = λ o. leaves_complete i value target }
    on_answer i (Refused t) u target = record { leaves = λ o. leaves_trap t }

    on_executed : (u : Units) (i : Instr) (t : Option Trap) → HasTarget i → LeadsOn (executed windows limit (record { processor = p; units = u }) i t)
    unfolding executed
    on_executed u i (Some t) target = record { leaves = λ o. leaves_trapped i t }
    on_executed u i None target = on_then _ _ (λ s. on_answer i s.response s.units target)

    on_fetched : (r : Response) (u : Units) → LeadsOn (fetched windows limit p r u)
    on_fetched (Refused t) u = record { leaves = λ o. leaves_trap t }
    on_fetched (Value value) u = on_executed u _ _ (target_of_word _)

    on_continued : (u : Units) → LeadsOn (continued windows limit (record { processor = p; units = u }))
    unfolding continued instruction slot_skipped advanced
    on_continued u = on_if p.annul _ _ (on_done _ (leaves_ring _ refl)) (on_then _ _ (λ s. on_fetched s.response s.units))

    on_requested : (u : Units) (word : ℕ) → LeadsOn (requested windows limit (record { processor = p; units = u }) word)
    unfolding requested
    on_requested u word = on_if (highest word == 0) _ _ (on_continued u) (record { leaves = λ o. leaves_interrupt (highest word) })

    on_interruptible : (u : Units) → LeadsOn (interruptible windows limit (record { processor = p; units = u }))
    unfolding interruptible
    on_interruptible u = on_if p.registers.psr.et _ _ (on_then _ _ (λ word. on_requested u word)) (on_continued u)

    on_action : (u : Units) → LeadsOn (action windows limit (record { processor = p; units = u }))
    unfolding action awake
    on_action u = on_if p.running _ _ (on_then _ _ (λ timer. on_interruptible _)) (on_done _ (leaves_ring _ refl))

pub other_windows_stay : OtherWindowsStay
unfolding run.step
other_windows_stay windows pages schedule n s two w_in =
    let t = run.eventful schedule n s in
    (on_action windows two s.processor w_in (ram_size pages) (inner_of t).units).leaves (outside_of t.memory (arrived (n + 1) schedule))
