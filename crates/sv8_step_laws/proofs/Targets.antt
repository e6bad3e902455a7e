-- The register that an instruction writes is one of the 32.
use Rattle.std.proofs.Common.{ℕ, ◌<◌, List, find, [], ◌∷◌, inl, inr}
use Rattle.std.proofs.lemmas.Bool.{cases_Bool}
use Rattle.sv8_isa.specs.declared.instr.Instr.{Instr}
use Rattle.sv8_isa.specs.declared.instr.Instr.TheVariants as row
use Rattle.sv8_isa.specs.Table.{Row, fits, table, instr_at, meaning}
use Rattle.sv8_isa.proofs.FieldLemmas.{field_below}
use Rattle.sv8_time.specs.Order.{Each}

-- rd is below 32, where the instruction writes a register of that number
abbrev pub HasTarget : Instr → Type 0
HasTarget (row.Sethi imm to) = to < 32
HasTarget (row.Arith op codes to from operand) = to < 32
HasTarget (row.Tagged op to from operand) = to < 32
HasTarget (row.Mulscc to from operand) = to < 32
HasTarget (row.Shift op to from count) = to < 32
HasTarget (row.ReadState register to) = to < 32
HasTarget (row.Jmpl to from operand) = to < 32
HasTarget (row.Save to from operand) = to < 32
HasTarget (row.Restore to from operand) = to < 32
HasTarget (row.Memory op to from operand) = to < 32
HasTarget (row.Alternate op to from other space) = to < 32
HasTarget instr = Unit {0}

infixr 40 ◌also◌
◌also◌ : {A B : Type 0} → A → B → A × B
x also y = (x, y)

-- so it is in each row of the table
row_targets : (w : ℕ) → Each (λ r. HasTarget (r.instr w)) table
row_targets w =
    let target = field_below w 29 25 in
    tt also tt also target also tt also tt also tt also target also target also target also target also target
    also target also target also target also target also target also target also target also target also target
    also target also target also target also target also target also target also target also target also target
    also target also target also target also target also target also target also target also target also target
    also target also target also target also target also target also tt also target also target also target also tt
    also tt also tt also tt also tt also tt also tt also tt also target also tt also tt also tt also target
    also target also target also target also tt also target also target also tt also target also target also tt
    also target also target also tt also target also target also tt also target also target also tt also target
    also target also tt also target also target also tt also target also target also tt also target also target
    also tt also target also target also tt also target also target also tt also tt also tt also tt also tt also tt
    also tt also tt also tt also tt also tt also tt also tt also tt also tt also tt

-- and in the row that a word fits, if any
found_target : (w : ℕ) (rows : List Row) → Each (λ r. HasTarget (r.instr w)) rows → HasTarget (instr_at (find (fits w) rows) w)
found_target w [] h = tt
found_target w (r ∷ rows) h =
    elim (cases_Bool (fits w r)) [
      | inl e ↦ rw e h.0
      | inr e ↦ rw e (found_target w rows h.1)
    ]

pub target_of_word : (w : ℕ) → HasTarget (meaning w)
unfolding meaning
target_of_word w = found_target w table (row_targets w)
