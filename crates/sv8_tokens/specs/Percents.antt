-- What the names after a percent sign stand for.
use Rattle.std.specs.Prelude.{List, [], ◌∷◌, codes}
use Rattle.sv8_isa.specs.declared.instr.StateRegister.TheVariants as state
use Rattle.sv8_statements.specs.declared.register.Register.TheVariants as r
use Rattle.sv8_statements.specs.Table.{Row, row}
use Rattle.sv8_tokens.specs.declared.token.Percent.{Percent}
use Rattle.sv8_tokens.specs.declared.token.Percent.TheVariants.{Register, State, High, Low}

-- r registers by the names of section 4.1 and by their numbers, state registers, and the two halves of a value
unfoldable pub percents : List (Row Percent)
percents =
    row (codes "g0") (Register r.G0) ∷
    row (codes "g1") (Register r.G1) ∷
    row (codes "g2") (Register r.G2) ∷
    row (codes "g3") (Register r.G3) ∷
    row (codes "g4") (Register r.G4) ∷
    row (codes "g5") (Register r.G5) ∷
    row (codes "g6") (Register r.G6) ∷
    row (codes "g7") (Register r.G7) ∷
    row (codes "o0") (Register r.O0) ∷
    row (codes "o1") (Register r.O1) ∷
    row (codes "o2") (Register r.O2) ∷
    row (codes "o3") (Register r.O3) ∷
    row (codes "o4") (Register r.O4) ∷
    row (codes "o5") (Register r.O5) ∷
    row (codes "o6") (Register r.O6) ∷
    row (codes "o7") (Register r.O7) ∷
    row (codes "l0") (Register r.L0) ∷
    row (codes "l1") (Register r.L1) ∷
    row (codes "l2") (Register r.L2) ∷
    row (codes "l3") (Register r.L3) ∷
    row (codes "l4") (Register r.L4) ∷
    row (codes "l5") (Register r.L5) ∷
    row (codes "l6") (Register r.L6) ∷
    row (codes "l7") (Register r.L7) ∷
    row (codes "i0") (Register r.I0) ∷
    row (codes "i1") (Register r.I1) ∷
    row (codes "i2") (Register r.I2) ∷
    row (codes "i3") (Register r.I3) ∷
    row (codes "i4") (Register r.I4) ∷
    row (codes "i5") (Register r.I5) ∷
    row (codes "i6") (Register r.I6) ∷
    row (codes "i7") (Register r.I7) ∷
    row (codes "r0") (Register r.G0) ∷
    row (codes "r1") (Register r.G1) ∷
    row (codes "r2") (Register r.G2) ∷
    row (codes "r3") (Register r.G3) ∷
    row (codes "r4") (Register r.G4) ∷
    row (codes "r5") (Register r.G5) ∷
    row (codes "r6") (Register r.G6) ∷
    row (codes "r7") (Register r.G7) ∷
    row (codes "r8") (Register r.O0) ∷
    row (codes "r9") (Register r.O1) ∷
    row (codes "r10") (Register r.O2) ∷
    row (codes "r11") (Register r.O3) ∷
    row (codes "r12") (Register r.O4) ∷
    row (codes "r13") (Register r.O5) ∷
    row (codes "r14") (Register r.O6) ∷
    row (codes "r15") (Register r.O7) ∷
    row (codes "r16") (Register r.L0) ∷
    row (codes "r17") (Register r.L1) ∷
    row (codes "r18") (Register r.L2) ∷
    row (codes "r19") (Register r.L3) ∷
    row (codes "r20") (Register r.L4) ∷
    row (codes "r21") (Register r.L5) ∷
    row (codes "r22") (Register r.L6) ∷
    row (codes "r23") (Register r.L7) ∷
    row (codes "r24") (Register r.I0) ∷
    row (codes "r25") (Register r.I1) ∷
    row (codes "r26") (Register r.I2) ∷
    row (codes "r27") (Register r.I3) ∷
    row (codes "r28") (Register r.I4) ∷
    row (codes "r29") (Register r.I5) ∷
    row (codes "r30") (Register r.I6) ∷
    row (codes "r31") (Register r.I7) ∷
    row (codes "sp") (Register r.O6) ∷
    row (codes "fp") (Register r.I6) ∷
    row (codes "y") (State state.Y) ∷
    row (codes "psr") (State state.Psr) ∷
    row (codes "wim") (State state.Wim) ∷
    row (codes "tbr") (State state.Tbr) ∷
    row (codes "hi") High ∷
    row (codes "lo") Low ∷ []
