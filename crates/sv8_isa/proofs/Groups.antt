-- What a group tells of a word.
use Rattle.std.proofs.Common.{◌≡◌, ℕ, ◌<◌, ◌≤◌, arith}
use Rattle.std.proofs.lemmas.Bool.Decides.{nat_tests}
use Rattle.sv8_model.specs.Words.{field}
use Rattle.sv8_isa.specs.declared.instr.Group.TheVariants as group
use Rattle.sv8_isa.specs.Table.{group_of}
use Rattle.sv8_isa.proofs.FieldLemmas.{field_below}

pub format_2 : (w : ℕ) → group_of w ≡ group.Format2 → field w 31 30 ≡ 0
unfolding group_of
format_2 w h = grind (arith, nat_tests, h)

pub call : (w : ℕ) → group_of w ≡ group.Call → field w 31 30 ≡ 1
unfolding group_of
call w h = grind (arith, nat_tests, h)

pub memory : (w : ℕ) → group_of w ≡ group.Memory → field w 31 30 ≡ 3
unfolding group_of
memory w h = grind (arith, nat_tests, h)

pub arithmetic : (w : ℕ) → group_of w ≡ group.Arithmetic → (field w 31 30 ≡ 2) × (field w 24 19 < 0x20)
unfolding group_of
arithmetic w h = let small = field_below w 31 30 in (grind (arith, nat_tests, h, small), grind (arith, nat_tests, h))

pub shift : (w : ℕ) → group_of w ≡ group.Shift → (field w 31 30 ≡ 2) × (0x20 ≤ field w 24 19)
unfolding group_of
shift w h = let small = field_below w 31 30 in (grind (arith, nat_tests, h, small), grind (arith, nat_tests, h))

pub control : (w : ℕ) → group_of w ≡ group.Control → (field w 31 30 ≡ 2) × (0x20 ≤ field w 24 19)
unfolding group_of
control w h = let small = field_below w 31 30 in (grind (arith, nat_tests, h, small), grind (arith, nat_tests, h))
