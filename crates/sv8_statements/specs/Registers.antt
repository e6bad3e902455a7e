-- The numbers of the registers.
use Rattle.std.specs.Prelude.{ℕ}
use Rattle.sv8_statements.specs.declared.register.Register.{Register}
use Rattle.sv8_statements.specs.declared.register.Register.TheVariants as r

abbrev pub number_of_register : Register → ℕ
number_of_register r.G0 = 0
number_of_register r.G1 = 1
number_of_register r.G2 = 2
number_of_register r.G3 = 3
number_of_register r.G4 = 4
number_of_register r.G5 = 5
number_of_register r.G6 = 6
number_of_register r.G7 = 7
number_of_register r.O0 = 8
number_of_register r.O1 = 9
number_of_register r.O2 = 10
number_of_register r.O3 = 11
number_of_register r.O4 = 12
number_of_register r.O5 = 13
number_of_register r.O6 = 14
number_of_register r.O7 = 15
number_of_register r.L0 = 16
number_of_register r.L1 = 17
number_of_register r.L2 = 18
number_of_register r.L3 = 19
number_of_register r.L4 = 20
number_of_register r.L5 = 21
number_of_register r.L6 = 22
number_of_register r.L7 = 23
number_of_register r.I0 = 24
number_of_register r.I1 = 25
number_of_register r.I2 = 26
number_of_register r.I3 = 27
number_of_register r.I4 = 28
number_of_register r.I5 = 29
number_of_register r.I6 = 30
number_of_register r.I7 = 31
